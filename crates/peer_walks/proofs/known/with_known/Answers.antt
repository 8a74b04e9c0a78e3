-- One of another session is passed over.
use Rattle.std.specs.Prelude.{◌≡◌, true, Option, Some, None}
use Rattle.std.proofs.Common.{rules, refl, sym, ap, ◌∙◌}
use Rattle.timeline.specs.declared.Timeline.{Timeline}
use Rattle.timeline.specs.declared.StartStopState.{StartStopState}
use Rattle.lists.specs.Lists.{best}
use Rattle.wire.specs.Same.{is_node}
use Rattle.model.specs.Peers.{timeline_list, start_stop_list, origin_of, moment_of}
use Rattle.peer_walks.specs.Inner.Known.{option_list, shared, known_with}
use Rattle.peer_walks.specs.Laws.Known.{passed_over}
use Rattle.peer_walks.proofs.known.with_known.Goals as goal

line_listed : (o : Option Timeline) → option_list o ≡ timeline_list o
line_listed (Some l) = refl
line_listed None = refl

start_stop_listed : (o : Option StartStopState) → option_list o ≡ start_stop_list o
start_stop_listed (Some s) = refl
start_stop_listed None = refl

pub returns-then-not-is_node : goal.returns-then-not-is_node
returns-then-not-is_node c =
    let s = c.args in
    sym (passed_over s.session s.theirs s.line s.start_stop (shared s.held) (search rules))

pub returns : goal.returns
unfolding shared known_with
returns c =
    let s = c.args in
    let e : is_node s.session s.theirs ≡ true = search rules in
    let line : c.better.result ≡ best origin_of s.held.timeline (timeline_list s.line) =
    c.better.ensures origin_of (λ x r k. search rules) ∙ ap (best origin_of s.held.timeline) (line_listed s.line)
    in
    let start_stop : c.better-2.result ≡ best moment_of s.held.start_stop (start_stop_list s.start_stop) =
    c.better-2.ensures moment_of (λ x r k. search rules) ∙ ap (best moment_of s.held.start_stop) (start_stop_listed s.start_stop)
    in
    rw (e, line, start_stop)
