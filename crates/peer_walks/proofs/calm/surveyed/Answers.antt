-- Field by field.
use Rattle.std.specs.Prelude.{ℕ, ◌≡◌, ◌+◌, Bool, true, false, ◌&&◌, cond}
use mir.Val.{bool_byte}
use Rattle.std.proofs.Common.{arith, rules, sym, ap, ap₂, ◌∙◌}
use Rattle.time.specs.declared.HostTime.{HostTime}
use Rattle.model.specs.Sums.{earlier}
use Rattle.peer_walks.specs.declared.Overview.{Overview}
use Rattle.peer_walks.proofs.calm.surveyed.Goals.{then-s, else-s, then-measuring, else-measuring}
use Rattle.peer_walks.proofs.calm.surveyed.Goals as goal

abbrev of : Bool → HostTime → HostTime → ℕ → Overview
of calm ping seen count = record { is_calm = calm; ping = ping; seen = seen; count = count }

alike : (b c : Bool) (p q s t : HostTime) (m n : ℕ) → b ≡ c → p ≡ q → s ≡ t → m ≡ n → of b p s m ≡ of c q t n
alike b c p q s t m n e f g h = ap₂ (λ (x : Bool) (y : HostTime). of x y s m) e f ∙ ap₂ (λ (x : HostTime) (k : ℕ). of c q x k) g h

counted : (b : Bool) (n k : ℕ) → k ≡ bool_byte b → n + k ≡ cond b (n + 1) n
counted true n k e = omega (arith, e)
counted false n k e = omega (arith, e)

pub returns : goal.returns
returns c =
    let a = c.args in
    let calm : c.if-s.result ≡ a.s.is_calm && a.rests = elim c.if-s.branch [
      | then-s w ↦ w.result-is ∙ sym (ap (λ b. b && a.rests) w.if-s.true)
      | else-s w ↦ w.result-is ∙ w.if-s.false ∙ sym (ap (λ b. b && a.rests) w.if-s.false)
    ] in
    let ping : c.if-measuring.result ≡ cond a.measuring (earlier a.s.ping a.ping) a.s.ping = elim c.if-measuring.branch [
      | then-measuring w ↦ let least : w.min.result ≡ earlier a.s.ping a.ping = search rules in w.result-is ∙ least ∙ sym (ap (λ b. cond b (earlier a.s.ping a.ping) a.s.ping) w.if-measuring.true)
      | else-measuring w ↦ w.result-is ∙ sym (ap (λ b. cond b (earlier a.s.ping a.ping) a.s.ping) w.if-measuring.false)
    ] in
    let seen : c.min-2.result ≡ earlier a.s.seen a.seen = search rules in
    let count : a.s.count + c.from.result ≡ cond a.counts (a.s.count + 1) a.s.count = counted a.counts a.s.count c.from.result c.from.ensures in
    alike _ _ _ _ _ _ _ _ calm ping seen count
