-- The scan over a list's places: what an entry at a place says, and how it moves the places of values.
use Rattle.std.specs.Prelude.{Option, Some, None, IfSome}
use mathlib.Core.Path.{◌≡◌, refl, sym, ap, ap₂, ◌∙◌, subst}
use mathlib.Core.Bool.{Bool, true, false, ◌&&◌, cond}
use mathlib.Core.List.{List, ◌∷◌}
use Prim.Native.Nat.{ℕ, ◌+◌, ◌-◌, ◌≤◌, ◌<◌}
use native.Mathlib.Omega.{arith}
use borrow.Author.Tests.{eqb-true, le-leb, lt-leb}
use lib.Dec.{eqb, leb}
use lib.ListN.{length, take, drop, length-drop}
use lib.Seq.{drop-drop, length-take-le}
use Rattle.signed.specs.Laws.Tests.{both}
use Rattle.big_endian.specs.Bytes.{number, number_at}
use Rattle.big_endian.specs.Laws.Puts.{by_bound, number_at_within, number_at_past}
use Rattle.wire_reader.specs.declared.scan.Places.{Places}
use Rattle.wire.specs.Layout.{keys}
use Rattle.wire.specs.Parse.{Entry, size_of, has_entry, first_entry, after_entry, entries, last_good}
use Rattle.wire.specs.Laws.Entries.{entry_head, entry_value, entries_end, entries_step}
use Rattle.wire_reader.specs.Inner.Scan.{place_after, with_entry, value_at, Field, Fields, Scanned}

-- ---- an entry at a place

-- a number of what is left of l, by its place in l
pub number_drop : (w k at : ℕ) (l : List ℕ) → at ≤ length l → number_at w k (drop at l) ≡ number_at w (at + k) l
number_drop w k at l h =
    by_bound (at + k + w) (length l)
    (λ f. number_at_within w k (drop at l) (rw length-drop (omega arith)) ∙ ap (λ (t : List ℕ). number (take w t)) (drop-drop k at l) ∙ sym (number_at_within w (at + k) l f))
    (λ f. number_at_past w k (drop at l) (rw length-drop (omega arith)) ∙ sym (number_at_past w (at + k) l f))

module _ (l : List ℕ) (at : ℕ) (h : at ≤ length l) where
  pub size_at : size_of (drop at l) ≡ number_at 4 (at + 4) l
  unfolding size_of
  size_at = number_drop 4 4 at l h

  pub has_not : length l - at < 8 → false ≡ has_entry (drop at l)
  unfolding has_entry
  has_not f = rw (length-drop at l, lt-leb _ _ f)

  pub has_by_size : 8 ≤ length l - at → leb (number_at 4 (at + 4) l) (length l - at - 8) ≡ has_entry (drop at l)
  unfolding has_entry
  has_by_size f = rw (size_at, length-drop at l, le-leb _ _ f)

  -- where there is one
  module _ (e : has_entry (drop at l) ≡ true) where
    pub head_within : at + 8 ≤ length l
    head_within = omega (arith, length-drop at l, entry_head (drop at l) e)

    pub value_within : at + 8 + number_at 4 (at + 4) l ≤ length l
    value_within = omega (arith, length-drop at l, entry_head (drop at l) e, entry_value (drop at l) e, size_at)

    -- the entry's value, by its place
    abbrev value : List ℕ
    value = take (number_at 4 (at + 4) l) (drop (at + 8) l)

    value_length : length value ≡ number_at 4 (at + 4) l
    value_length = length-take-le _ _ (rw length-drop (omega (arith, value_within)))

    first_is : first_entry (drop at l) ≡ record { key = number_at 4 at l; value = value }
    unfolding first_entry
    first_is =
        let k : number_at 4 0 (drop at l) ≡ number_at 4 at l = number_drop 4 0 at l h ∙ ap (λ (n : ℕ). number_at 4 n l) (omega arith) in
        ap₂ (λ (k : ℕ) (v : List ℕ). record { key = k; value = v }) k (ap₂ (λ (n : ℕ) (t : List ℕ). take n t) size_at (drop-drop 8 at l))

    after_is : after_entry (drop at l) ≡ drop (at + 8 + number_at 4 (at + 4) l) l
    unfolding after_entry
    after_is = rw (size_at, drop-drop 8 at l, drop-drop (number_at 4 (at + 4) l) (at + 8) l)

    next : entries (drop at l) ≡ record { key = number_at 4 at l; value = value } ∷ entries (drop (at + 8 + number_at 4 (at + 4) l) l)
    next = entries_step (drop at l) e ∙ ap₂ (λ (x : Entry) (t : List ℕ). x ∷ entries t) first_is after_is

    -- ---- what the entry does to the place of one key's value
    module _ (from key size : ℕ) (p : Option ℕ) where
      -- whether it is a good entry of the key
      abbrev good : Bool
      good = eqb (number_at 4 at l) key && eqb (number_at 4 (at + 4) l) size

      found : (t : Bool) → good ≡ t → value_at l size (cond t (Some (at + 8)) p) ≡ cond t (Some value) (value_at l size p)
      unfolding value_at
      found true g =
          let s : number_at 4 (at + 4) l ≡ size = eqb-true _ _ (both (eqb (number_at 4 at l) key) (eqb (number_at 4 (at + 4) l) size) g).1 in
          ap (λ (n : ℕ). Some (take n (drop (at + 8) l))) (sym s)
      found false g = refl

      inside : (t : Bool) → good ≡ t → IfSome p (λ q. q + size ≤ length l) → IfSome (cond t (Some (at + 8)) p) (λ q. q + size ≤ length l)
      inside true g w =
          let s : number_at 4 (at + 4) l ≡ size = eqb-true _ _ (both (eqb (number_at 4 at l) key) (eqb (number_at 4 (at + 4) l) size) g).1 in
          omega (arith, value_within)
      inside false g w = w

      pub field_step : Field l from (entries (drop at l)) key size p → Field l from (entries (drop (at + 8 + number_at 4 (at + 4) l) l)) key size (place_after (number_at 4 at l) (number_at 4 (at + 4) l) (at + 8) key size p)
      unfolding last_good
      field_step f = record {
        is =
            let es = entries (drop (at + 8 + number_at 4 (at + 4) l) l) in
            ap (λ (o : Option (List ℕ)). last_good key size o es) (found good refl)
            ∙ ap (λ (n : ℕ). last_good key size (cond (eqb (number_at 4 at l) key && eqb n size) (Some value) (value_at l size p)) es) (sym value_length)
            ∙ ap (λ (xs : List Entry). last_good key size (value_at l size p) xs) (sym next)
            ∙ f.is;
        within = inside good refl f.within;
      }

    pub fields_step : (from : ℕ) (p : Places) → Fields l from (entries (drop at l)) p → Fields l from (entries (drop (at + 8 + number_at 4 (at + 4) l) l)) (with_entry (number_at 4 at l) (number_at 4 (at + 4) l) (at + 8) p)
    unfolding with_entry
    fields_step from p f = record {
      tmln = field_step from keys.tmln 24 p.tmln f.tmln;
      sess = field_step from keys.sess 8 p.sess f.sess;
      stst = field_step from keys.stst 17 p.stst f.stst;
      mep4 = field_step from keys.mep4 6 p.mep4 f.mep4;
      ht = field_step from keys.ht 8 p.ht f.ht;
      gt = field_step from keys.gt 8 p.gt f.gt;
      pgt = field_step from keys.pgt 8 p.pgt f.pgt;
    }

-- ---- the scan's start and end

field_start : (l : List ℕ) (from key size : ℕ) → Field l from (entries (drop from l)) key size None
unfolding value_at
field_start l from key size = record { is = refl; within = tt }

pub fields_start : (l : List ℕ) (from : ℕ) (p : Places) → (p.tmln ≡ None × (p.sess ≡ None × (p.stst ≡ None × (p.mep4 ≡ None × (p.ht ≡ None × (p.gt ≡ None × p.pgt ≡ None)))))) → Fields l from (entries (drop from l)) p
fields_start l from p (tmln, (sess, (stst, (mep4, (ht, (gt, pgt)))))) = record {
  tmln = rw tmln (field_start l from keys.tmln 24);
  sess = rw sess (field_start l from keys.sess 8);
  stst = rw stst (field_start l from keys.stst 17);
  mep4 = rw mep4 (field_start l from keys.mep4 6);
  ht = rw ht (field_start l from keys.ht 8);
  gt = rw gt (field_start l from keys.gt 8);
  pgt = rw pgt (field_start l from keys.pgt 8);
}

pub fields_end : (l : List ℕ) (from at : ℕ) (p : Places) → has_entry (drop at l) ≡ false → Fields l from (entries (drop at l)) p → Scanned l from p
fields_end l from at p e f = subst (λ (es : List Entry). Fields l from es p) (entries_end (drop at l) e) f
