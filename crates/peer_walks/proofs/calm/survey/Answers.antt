-- One neighbour is taken on from those that are left.
use Rattle.std.specs.Prelude.{◌≡◌, ◌+◌, ◌-◌, ◌≤◌, true, ◌&&◌, not, min}
use Rattle.std.specs.Int.Signed.{le_z}
use Rattle.std.proofs.Common.{arith, rules, refl, sym, ap, ◌∙◌, subst}
use Rattle.model.specs.Sums.{never}
use Rattle.model.specs.Peers.{in_session}
use Rattle.peer_table.specs.Rows.{upto, peer_at, peers_of}
use Rattle.peer_table.specs.Laws.Upto.{none_left, folded}
use Rattle.peer_walks.specs.declared.Overview.{Overview}
use Rattle.peer_walks.specs.Inner.Calm.{with_peer, survey_of}
use Rattle.peer_walks.specs.Laws.Survey.{one_at_most, calm_is, ping_is, seen_is, count_is}
use Rattle.peer_walks.proofs.calm.survey.Goals.{then-not-ping_due, else-not-ping_due}
use Rattle.peer_walks.proofs.calm.survey.Goals as goal

pub loop-i-init : goal.loop-i-init
unfolding peers_of
loop-i-init c =
    let a = c.args in
    let e : c.held-n.result - 0 ≡ min a.count 16 = omega (arith, c.held-n.ensures) in
    let start : Overview = record { is_calm = true; ping = a.next; seen = never; count = 0 } in
    (c.held-n.ensures, omega arith, ap (λ k. survey_of a.at a.session start (upto (peer_at a.words.now a.numbers.now) 0 k)) e)

pub loop-i-preserved : goal.loop-i-preserved
unfolding survey_of
loop-i-preserved c =
    let a = c.args in
    let w = a.words.now in
    let v = a.numbers.now in
    let i = c.loop-i.i in
    let s = c.loop-i.s in
    let f = peer_at w v in
    let inv = c.loop-i.invariant in
    let rests : c.if-not-ping_due.rests ≡ not c.ping_due.result && le_z c.oldest_kept-cutoff.result.0 c.seen_at-seen.result.0 = elim c.if-not-ping_due.branch [
      | then-not-ping_due w ↦
          let le : w.le-rests.result ≡ le_z c.oldest_kept-cutoff.result.0 c.seen_at-seen.result.0 = search rules in
          w.rests-is ∙ le ∙ sym (ap (λ b. not b && le_z c.oldest_kept-cutoff.result.0 c.seen_at-seen.result.0) w.if-not-ping_due.true)
      | else-not-ping_due w ↦ w.rests-is ∙ ap not w.if-not-ping_due.false ∙ sym (ap (λ b. not b && le_z c.oldest_kept-cutoff.result.0 c.seen_at-seen.result.0) w.if-not-ping_due.false)
    ] in
    let next : c.surveyed-s.result ≡ with_peer a.at a.session s (f i) =
    c.surveyed-s.ensures ∙ rw (rests, c.ping_due.ensures, c.oldest_kept-cutoff.ensures, c.is_node-counts.ensures, c.session_at-other.ensures v, c.is_measuring-measuring.ensures v, c.seen_at-seen.ensures w, c.next_ping_at-ping.ensures w)
    in (
      inv.0,
      subst (λ (x : Overview). x.count ≤ i + 1) (sym next) (one_at_most (in_session a.session (f i)) s.count i inv.1),
      folded f i c.held-n.result (omega arith) (survey_of a.at a.session) (with_peer a.at a.session) (λ s x ys. refl) s c.surveyed-s.result next ∙ inv.2,
    )

whole : (c : goal.After-loop-i) → c.loop-i.s ≡ survey_of c.args.at c.args.session (record { is_calm = true; ping = c.args.next; seen = never; count = 0 }) (peers_of c.args.count c.args.words.now c.args.numbers.now)
unfolding survey_of
whole c =
    let a = c.args in
    ap (survey_of a.at a.session c.loop-i.s) (sym (none_left (peer_at a.words.now a.numbers.now) c.loop-i.i c.held-n.result (omega arith))) ∙ c.loop-i.invariant.2

pub returns-clause-is_calm_value : goal.returns-clause-is_calm_value
returns-clause-is_calm_value c = ap (λ (v : Overview). v.is_calm) (whole c) ∙ calm_is c.args.at c.args.session _ (peers_of c.args.count c.args.words.now c.args.numbers.now)

pub returns-clause-ping_value : goal.returns-clause-ping_value
returns-clause-ping_value c = ap (λ (v : Overview). v.ping) (whole c) ∙ ping_is c.args.at c.args.session _ (peers_of c.args.count c.args.words.now c.args.numbers.now)

pub returns-clause-seen_value : goal.returns-clause-seen_value
returns-clause-seen_value c = ap (λ (v : Overview). v.seen) (whole c) ∙ seen_is c.args.at c.args.session _ (peers_of c.args.count c.args.words.now c.args.numbers.now)

pub returns-clause-count_value : goal.returns-clause-count_value
returns-clause-count_value c = omega (arith, ap (λ (v : Overview). v.count) (whole c) ∙ count_is c.args.at c.args.session _ (peers_of c.args.count c.args.words.now c.args.numbers.now))
