use Rattle.std.proofs.Common.{◌≡◌, ◌+◌, ◌-◌, ◌∙◌, ap, List, ℕ, length, take, drop, arith, take_all, length-drop}
use Rattle.std.specs.Option.{unwrap_or}
use Rattle.text.specs.Lines.{before}
use Rattle.text.proofs.Words.{found_in}
use Rattle.text.proofs.lines.find.Goals as goal

pub returns : goal.returns
returns c =
    let byte = c.args.byte in
    let rest = take (length c.args.s.now - c.args.from) (drop c.args.from c.args.s.now) in
    let t : rest ≡ drop c.args.from c.args.s.now = take_all _ _ (omega (arith, length-drop c.args.from c.args.s.now)) in
    ap (λ k. c.args.from + k) (c.unwrap_or.ensures ∙ ap (λ o. unwrap_or o (length rest)) c.place.ensures ∙ found_in byte rest ∙ ap (λ (l : List ℕ). length (before byte l)) t)
