-- The row after both steps, and what is told of it.
use Rattle.std.specs.Prelude.{ℤ, Bool, cond, length, Some, ◌≡◌}
use Rattle.std.proofs.Common.{refl, sym, ap, subst, ◌∙◌}
use Rattle.model.specs.Peers.{Samples, Peer, no_samples, sampled}
use Rattle.model.specs.Packet.{sample_of, samples_with, measured, after_pong, handle_pong_of}
use Rattle.peer.specs.Held.{peer}
use Rattle.peer.specs.Inner.Said.{pong_msg}
use Rattle.peer_table.specs.Rows.{peer_at}
use Rattle.peer_table.specs.Inner.Changed.{with_samples, Changed}
use Rattle.peer_table.specs.Laws.Changed.{changed_then}
use Rattle.messages.specs.Inner.Heard.{arrival_of, Tells}
use Rattle.messages.proofs.Choices.{change, stay}
use Rattle.messages.proofs.measurement.handle_pong_at.Goals as goal
use Rattle.messages.proofs.measurement.handle_pong_at.Goals.{then-moves, else-moves, then-moved, else-moved}

pub returns : goal.returns
unfolding with_samples samples_with peer after_pong pong_msg
returns c =
    let a = c.args in
    let w = a.words.now in
    let l = a.numbers.now in
    let w₁ = c.if-moves.words in
    let w₂ = c.if-moved.words in
    let l₂ = c.if-moved.numbers in
    let w₃ = c.put_peer.new.words in
    let l₃ = c.put_peer.new.numbers in
    let m = pong_msg a.said in
    let at = a.arrival.now in
    let row = peer_at w l a.i in
    let held = c.peer_at-p.ensures in
    let moved = c.moved-moved.result in
    let moves = c.moves.result in
    let heard = c.measured-heard.result in
    let ping_time = a.said.ping_host_time in
    let offset : ℤ = sample_of m at in
    let left : Samples = cond moves no_samples row.samples in
    let kept : Samples = samples_with ping_time offset (peer moved left) in
    let cleared : Changed w w₁ l l a.i (with_samples (λ s. cond moves no_samples s) row) =
    elim c.if-moves.branch [
      | then-moves b ↦ change moves (λ _. no_samples) w b.clear_samples.new.words w₁ l l l a.i b.words-is refl b.if-moves.true (b.clear_samples.ensures l)
      | else-moves b ↦ stay moves (λ _. no_samples) w w₁ l l a.i b.words-is refl b.if-moves.false
    ] in
    let pushed : Changed w₁ w₂ l l₂ a.i (with_samples (λ s. cond moved.measuring (sampled ping_time offset s) s) (peer_at w₁ l a.i)) =
    elim c.if-moved.branch [
      | then-moved b ↦
          change moved.measuring (sampled ping_time offset) w₁ b.push_sample.new.words w₂ l b.push_sample.new.numbers l₂ a.i b.words-is b.numbers-is b.if-moved.true
          (subst (λ (x : ℤ). Changed w₁ b.push_sample.new.words l b.push_sample.new.numbers a.i (with_samples (sampled ping_time x) (peer_at w₁ l a.i))) b.sample-offset.ensures b.push_sample.ensures)
      | else-moved b ↦ stay moved.measuring (sampled ping_time offset) w₁ w₂ l l₂ a.i b.words-is b.numbers-is b.if-moved.false
    ] in
    let keep = changed_then w w₁ w₂ l l l₂ a.i _ (with_samples (λ s. cond moved.measuring (sampled ping_time offset s) s)) cleared pushed in
    let put : Changed w w₃ l l₃ a.i (peer heard kept) = changed_then w w₂ w₃ l l₂ l₃ a.i _ (λ (p : Peer). peer heard p.samples) keep c.put_peer.ensures in
    let many : c.sample_count-samples.result ≡ length kept.offsets = c.sample_count-samples.ensures l₂ ∙ ap (λ (p : Peer). length p.samples.offsets) (keep.here c.requires) in
    let first_step = ap (λ (b : Bool). peer moved (cond b no_samples row.samples)) (c.moves.ensures row.samples) ∙ c.moved-moved.ensures row.samples in
    let same = c.measured-heard.ensures ping_time offset left (sym many) ∙ ap (measured ping_time offset at) first_step in
    record {
      changed = subst (Changed w w₃ l l₃ a.i) (same ∙ ap (after_pong m at) held) put;
      tells = λ e. subst (λ (p : Peer). Tells c.answer_pong.result a.count (handle_pong_of e (arrival_of a.arrival) m (Some p))) held (c.answer_pong.ensures e row.samples kept same many);
    }
