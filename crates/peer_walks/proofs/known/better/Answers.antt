-- Of two the first stays where the other's key is not larger.
use Rattle.std.specs.Prelude.{◌≡◌, ℤ, true, false, cond, Option, Some, None}
use Rattle.std.specs.Int.Signed.{le_z}
use Rattle.std.proofs.Common.{rules, refl, sym, ap, ap₂, ◌∙◌}
use Rattle.lists.specs.Lists.{best, best_from}
use Rattle.peer_walks.specs.Inner.Known.{option_list}
use Rattle.peer_walks.proofs.known.better.Goals.{then-key, else-key}
use Rattle.peer_walks.proofs.known.better.Goals as goal

module _ {A : Type 0} (value : A → ℤ) where
  of_two : (held other : Option A) (x y r : A) → held ≡ Some x → other ≡ Some y → r ≡ cond (le_z (value y) (value x)) x y → Some r ≡ best value held (option_list other)
  unfolding best best_from
  of_two held other x y r h o e = ap Some e ∙ sym (ap₂ (λ a b. best value a (option_list b)) h o)

  of_one : (held other : Option A) (x : A) → held ≡ Some x → other ≡ None → Some x ≡ best value held (option_list other)
  unfolding best best_from
  of_one held other x h o = sym (ap₂ (λ a b. best value a (option_list b)) h o)

  of_none : (other : Option A) → other ≡ best value None (option_list other)
  unfolding best best_from
  of_none (Some y) = refl
  of_none None = refl

pub returns-in-Some-Some : goal.returns-in-Some-Some
returns-in-Some-Some g c =
    λ value h.
    let x = c.in-Some-Some.x in
    let y = c.in-Some-Some.y in
    let of_y : c.key.result ≡ value y = h y c.key.result c.key.ensures in
    let of_x : c.key-in-Some-Some.result ≡ value x = h x c.key-in-Some-Some.result c.key-in-Some-Some.ensures in
    of_two value c.args.held c.args.other x y c.if-key.result c.in-Some-Some.is-0 c.in-Some-Some.is-1 (elim c.if-key.branch [
      | then-key w ↦ let le : le_z c.key.result c.key-in-Some-Some.result ≡ true = search rules in w.result-is ∙ sym (ap (λ b. cond b x y) (sym (ap₂ le_z of_y of_x) ∙ le))
      | else-key w ↦ let gt : le_z c.key.result c.key-in-Some-Some.result ≡ false = search rules in w.result-is ∙ sym (ap (λ b. cond b x y) (sym (ap₂ le_z of_y of_x) ∙ gt))
    ])

pub returns-in-Some-None : goal.returns-in-Some-None
returns-in-Some-None g c = λ value h. of_one value c.args.held c.args.other c.in-Some-None.x c.in-Some-None.is-0 c.in-Some-None.is-1

pub returns : goal.returns
returns g c = λ value h. of_none value c.args.other ∙ ap (λ a. best value a (option_list c.args.other)) (sym c.in-None-default.is-0)
