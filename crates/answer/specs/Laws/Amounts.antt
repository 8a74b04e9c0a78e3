-- How much the outputs take: one, one after another, one on each interface.
use Rattle.std.specs.Prelude.{ℕ, ◌+◌, ◌*◌, ◌≤◌, ◌≡◌, Bool, Option, None}
use Rattle.std.proofs.Math.Nat.{mul_assoc, le_trans}
use Rattle.std.proofs.Common.{mul-le-mul_left, mul-le-mul_right, ◌∙◌, length-take}
use native.Mathlib.Omega.{arith}
use Rattle.std.proofs.Math.Path.{sym, ap}
use mathlib.Core.List.{List, [], ◌∷◌, ◌++◌, map, flat_map}
use Rattle.std.proofs.Math.ListN.{length, length-append, length-map}
use Rattle.time.specs.declared.HostTime.{HostTime}
use Rattle.wire.specs.declared.SocketAddrPlain.{SocketAddrPlain}
use Rattle.wire.specs.Layout.{mep4_entry, ping_bytes}
use Rattle.wire.specs.Laws.Sizes.{alive_size, ping_25}
use Rattle.model.specs.Peers.{Interface}
use Rattle.model.specs.Engine.{Box, Output, send, our_alive}
use Rattle.model.specs.Answer.{content, contents}
use Rattle.output.specs.Laws.Sizes.{length_send}
use Rattle.interface_map.specs.declared.Interfaces.{Interfaces}
use Rattle.interface_map.specs.Held.{interfaces_of}
use Rattle.answer.specs.declared.extent.Extent.{Extent}
use Rattle.answer.specs.Inner.Planned.{ping_outputs}
use Rattle.answer.specs.Inner.Extents.{Extends}
use Rattle.answer.specs.Laws.Runs.{length-contents, length_one}

-- ---- one output

-- our alive, with an address or without
pub length_alive : (e : Box) (mep4 : Option SocketAddrPlain) (is_response : Bool) → length (our_alive e mep4 is_response) ≡ 93 + length (mep4_entry mep4)
unfolding our_alive
length_alive e mep4 is_response = alive_size _ _ _ _ is_response mep4

-- ---- none, one, one after another

-- what the functions say of the extents that they make
abbrev pub Of : ℕ → ℕ → Extent → Type 0
Of n b r = (r.outputs ≡ n) × (r.bytes ≡ b)

pub none_extends : {most room : ℕ} {r : Extent} → Of 0 0 r → Extends [] most room r
unfolding contents flat_map
none_extends e = record { outputs = e.0; bytes = e.1; few = omega (arith, e.0); small = omega (arith, e.1) }

pub one_extends : (o : Output) {n room : ℕ} {r : Extent} → length (content o) ≡ n → n ≤ room → Of 1 n r → Extends (o ∷ []) 1 room r
one_extends o h k e = record { outputs = e.0; bytes = e.1 ∙ sym (length_one o ∙ h); few = omega (arith, e.0); small = omega (arith, e.1) }

pub both_extend : (xs ys : List Output) {a b c d : ℕ} {r s t : Extent} → Extends xs a c r → Extends ys b d s → Of (r.outputs + s.outputs) (r.bytes + s.bytes) t → Extends (xs ++ ys) (a + b) (c + d) t
both_extend xs ys x y e = record {
  outputs = omega (arith, e.0, x.outputs, y.outputs, length-append xs ys);
  bytes = omega (arith, e.1, x.bytes, y.bytes, length-contents xs ys);
  few = omega (arith, e.0, x.few, y.few);
  small = omega (arith, e.1, x.small, y.small);
}

-- ---- on each interface

pub few_interfaces : (i : Interfaces) → length (interfaces_of i) ≤ 4
unfolding interfaces_of
few_interfaces i = simp (length-map, length-take) (omega arith)

module _ {A : Type 0} (f : A → Output) (n : ℕ) (h : (x : A) → length (content (f x)) ≡ n) where
  contents_map : (xs : List A) → length (contents (map f xs)) ≡ length xs * n
  unfolding contents flat_map
  contents_map [] = omega arith
  contents_map (x ∷ xs) = omega (arith, contents_map xs, h x, length-append (content (f x)) (flat_map content (map f xs)))

  pub map_extends : (xs : List A) {most room : ℕ} {r : Extent} → length xs ≤ most → most * n ≤ room → Of (length xs) (length xs * n) r → Extends (map f xs) most room r
  map_extends xs k m e = record {
    outputs = e.0 ∙ sym (length-map xs f);
    bytes = e.1 ∙ sym (contents_map xs);
    few = omega (arith, e.0);
    small = omega (arith, e.1, mul-le-mul_right n k);
  }

module _ {A : Type 0} (g : A → List Output) (m n : ℕ) (hm : (x : A) → length (g x) ≡ m) (hn : (x : A) → length (contents (g x)) ≡ n) where
  length-flat_map : (xs : List A) → length (flat_map g xs) ≡ length xs * m
  unfolding flat_map
  length-flat_map [] = omega arith
  length-flat_map (x ∷ xs) = omega (arith, length-flat_map xs, hm x, length-append (g x) (flat_map g xs))

  contents_flat_map : (xs : List A) → length (contents (flat_map g xs)) ≡ length xs * n
  unfolding contents flat_map
  contents_flat_map [] = omega arith
  contents_flat_map (x ∷ xs) = omega (arith, contents_flat_map xs, hn x, length-contents (g x) (flat_map g xs))

module _ (t : HostTime) (is : List Interface) (to : List SocketAddrPlain) where
  pub ping_extends : {r : Extent} → length is ≤ 4 → length to ≤ 16 → Of (length to * length is) (length to * length is * 35) r → Extends (ping_outputs t is to) 64 2240 r
  unfolding ping_outputs
  ping_extends hi ha e =
      let one : (a : SocketAddrPlain) → Interface → Output = λ a i. send i.id a (ping_bytes t None) in
      let size : (a : SocketAddrPlain) (i : Interface) → length (content (one a i)) ≡ 35 = λ a i. length_send i.id a (ping_bytes t None) ∙ ap (λ (k : ℕ). 10 + k) (ping_25 t) in
      let each : length (flat_map (λ a. map (one a) is) to) ≡ length to * length is = length-flat_map (λ a. map (one a) is) (length is) (length is * 35) (λ a. length-map is (one a)) (λ a. contents_map (one a) 35 (size a) is) to in
      let all : length (contents (flat_map (λ a. map (one a) is) to)) ≡ length to * (length is * 35) = contents_flat_map (λ a. map (one a) is) (length is) (length is * 35) (λ a. length-map is (one a)) (λ a. contents_map (one a) 35 (size a) is) to in
      let most : length to * length is ≤ 16 * 4 = le_trans (mul-le-mul_left (length to) hi) (mul-le-mul_right 4 ha) in
      record {
        outputs = e.0 ∙ sym each;
        bytes = e.1 ∙ mul_assoc (length to) (length is) 35 ∙ sym all;
        few = omega (arith, e.0);
        small = omega (arith, e.1);
      }
