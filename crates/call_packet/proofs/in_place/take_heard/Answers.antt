-- `call_packet::in_place::take_heard` meets its contract.
use Rattle.std.proofs.Common.{◌≡◌, sym, ap, ap₂, ◌∙◌, ◌++◌, List, drop}
use Rattle.model.specs.Engine.{Box, Output, with_peers}
use Rattle.model.specs.Produce.{produce_outputs}
use Rattle.model.specs.Calls.{resolved_if_needed}
use Rattle.peer_table.specs.Rows.{peers_of}
use Rattle.engine_state.specs.declared.core_state.Core.{Core}
use Rattle.engine_state.specs.Held.{core_box, held_in}
use Rattle.answer.specs.Inner.Planned.{reply_outputs, state_outputs}
use Rattle.election.specs.declared.Resolved.{Resolved}
use Rattle.upkeep.specs.Inner.Decided.{core_with}
use Rattle.upkeep.specs.Laws.Settled.{resolution_box, resolution_outputs}
use Rattle.messages.specs.Inner.Heard.{heard}
use Rattle.call.specs.Inner.Answered.{written_answer}
use Rattle.call_packet.proofs.in_place.take_heard.Goals as goal

pub returns : goal.returns
unfolding heard resolved_if_needed with_peers core_box
returns c =
    let s = c.args in
    let becomes = peers_of s.taken.count s.words.now s.numbers.now in
    let after = heard s.taken becomes s.packet.now (held_in s.e s.words.now s.numbers.now) in
    let echo = drop 9 s.packet.now in
    let resolves = s.taken.needs_resolution in
    let chosen = c.elected_after-elected.ensures in
    let from : held_in c.decided_core-core.result s.words.now s.numbers.now ≡ (resolved_if_needed s.at after).box =
    ap (λ (y : Core). held_in y s.words.now s.numbers.now) c.decided_core-core.ensures
    ∙ ap (λ (y : Resolved). core_with s.e becomes s.e.num_session_peers y) chosen
    ∙ sym (resolution_box s.at s.e becomes s.e.num_session_peers s.e.next_broadcast resolves) in
    let says : state_outputs c.elected_after-elected.result.report ≡ (resolved_if_needed s.at after).outputs =
    ap (λ (y : Resolved). state_outputs y.report) chosen ∙ sym (resolution_outputs s.at s.e becomes s.e.num_session_peers s.e.next_broadcast resolves) in
    record {
      numbers_after = c.then_produce.ensures.numbers_after ∙ ap (λ (b : Box). (produce_outputs s.at b).box) from;
      buf_after = c.then_produce.ensures.buf_after
          ∙ ap₂ (λ (os : List Output) (b : Box). written_answer echo (reply_outputs echo s.taken.reply ++ (os ++ (produce_outputs s.at b).outputs)) s.buf.now) says from;
    }
