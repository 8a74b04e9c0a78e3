-- What the private functions of the scan say: places of values. No public contract cites these.
use Rattle.std.specs.Prelude.{◌≡◌, ℕ, ◌+◌, ◌≤◌, cond, IfSome, ◌&&◌, List, [], eqb, length, take, drop, Option, Some, None}
use Rattle.wire_reader.specs.declared.scan.Places.{Places}
use Rattle.wire.specs.Layout.{keys, sizes}
use Rattle.wire.specs.Parse.{Entry, entries, last_good}

-- the place after an entry of key k and size s, whose value is at `at`
abbrev pub place_after : ℕ → ℕ → ℕ → ℕ → ℕ → Option ℕ → Option ℕ
place_after k s at key size p = cond (eqb k key && eqb s size) (Some at) p

unfoldable pub with_entry : ℕ → ℕ → ℕ → Places → Places
with_entry k s at p = record {
  tmln = place_after k s at keys.tmln sizes.tmln p.tmln;
  sess = place_after k s at keys.sess sizes.sess p.sess;
  stst = place_after k s at keys.stst sizes.stst p.stst;
  mep4 = place_after k s at keys.mep4 sizes.mep4 p.mep4;
  ht = place_after k s at keys.ht sizes.time p.ht;
  gt = place_after k s at keys.gt sizes.time p.gt;
  pgt = place_after k s at keys.pgt sizes.time p.pgt;
}

-- the value of this size at a place of l
unfoldable pub value_at : List ℕ → ℕ → Option ℕ → Option (List ℕ)
value_at l size None = None
value_at l size (Some p) = Some (take size (drop p l))

-- p is where the scan from `from` on has the value of the last good entry, once the entries es that are left are read
pub record Field (l : List ℕ) (from : ℕ) (es : List Entry) (key size : ℕ) (p : Option ℕ) : Type 0 where
  pub is : last_good key size (value_at l size p) es ≡ last_good key size None (entries (drop from l))
  pub within : IfSome p (λ at. at + size ≤ length l)

-- the same of every key
pub record Fields (l : List ℕ) (from : ℕ) (es : List Entry) (p : Places) : Type 0 where
  pub tmln : Field l from es keys.tmln sizes.tmln p.tmln
  pub sess : Field l from es keys.sess sizes.sess p.sess
  pub stst : Field l from es keys.stst sizes.stst p.stst
  pub mep4 : Field l from es keys.mep4 sizes.mep4 p.mep4
  pub ht : Field l from es keys.ht sizes.time p.ht
  pub gt : Field l from es keys.gt sizes.time p.gt
  pub pgt : Field l from es keys.pgt sizes.time p.pgt

-- where no entry is left
abbrev pub Scanned : List ℕ → ℕ → Places → Type 0
Scanned l from p = Fields l from [] p
