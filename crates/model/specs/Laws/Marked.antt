-- The marked table of the scope, as one statement.
use Rattle.std.specs.Prelude.{ℕ, ◌≡◌, refl, true, List, [], ◌∷◌, map, ℤ, pos, negsuc, length, take, drop, Some, None}
use Rattle.std.specs.Float.{binary64}
use Rattle.std.specs.Float.Ieee.{of_int}
use Rattle.timeline.specs.declared.Timeline.{Timeline}
use Rattle.timeline.specs.Phase.{phase_of}
use Rattle.timeline.specs.Session.{default_state}
use Rattle.timeline.specs.Laws.Theorems.{minus_one_in_four}
use Rattle.model.specs.Sums.{plus}
use Rattle.model.specs.Peers.{Peer, sample, median_offset}
use Rattle.model.specs.Engine.{Box, Output, set_timer, new}
use Rattle.model.specs.Election.{resolved}
use Rattle.model.specs.Calls.{Call, commit, switch, step, outputs_of}
use Rattle.model.specs.Answer.{kind, content, contents, answer}
use Rattle.model.specs.Laws.Tools.Open.{everything}
use Rattle.model.specs.Laws.Tools.Scenes.{at, node, port, line, lined, led}

-- ---- what the rows speak of

-- a neighbour of session s with one sample
abbrev sampled_once : ℕ → ℤ → Peer
sampled_once s offset = record {
  id = node 9;
  session_id = Some (node s);
  timeline_ghost = None;
  start_stop_ghost = None;
  last_seen = at (pos 0);
  addr = port 0;
  samples = record { offsets = offset ∷ []; ping_times = at (pos 0) ∷ [] };
  next_ping_time = at (pos 0);
  ping_timeouts = 0;
  measuring = true;
}

-- node 1, in session 5 at offset 0, with that neighbour, after an election
abbrev elected : ℕ → ℤ → Box
elected s offset = resolved (at (pos 0)) (record {
  node_id = node 1;
  enabled = true;
  session_id = node 5;
  session_offset = pos 0;
  state = default_state;
  interfaces = [];
  peers = sampled_once s offset ∷ [];
  num_session_peers = 0;
  next_broadcast = at (pos 0);
})

abbrev asks : ℤ → ℤ → ℤ → Call
asks tempo beat time = commit (lined (line tempo beat time)) (at (pos 0)) 4096

-- the line after a commit of beat origin 8,000,000, then of 7,999,999 with tempo 500,001 and any time origin
abbrev moved : ℤ → Timeline
moved time = (led (asks (pos 500_000) (pos 8_000_000) (pos 0) ∷ asks (pos 500_001) (pos 7_999_999) time ∷ [])).state.timeline

-- node 1 enabled fresh at 1,000 without interfaces
abbrev fresh : List Output
fresh = outputs_of (step (new (node 1)) (switch true (at (pos 1_000)) 4096))

-- the times of the timers among outputs
abbrev timers : List Output → List ℤ
timers [] = []
timers (Output.send i a bs ∷ os) = timers os
timers (Output.state_changed s ∷ os) = timers os
timers (Output.num_peers_changed n ∷ os) = timers os
timers (set_timer t ∷ os) = t.0 ∷ timers os

-- ---- the table

pub marked :
    -- samples
    (sample None (at (pos 1_000)) (at (pos 5)) (at (pos 10)) ≡ pos 993)
    × (sample None (at (pos 1_000)) (at (negsuc 24)) (at (pos 10)) ≡ pos 1_007)
    × (sample (Some (at (pos 900))) (at (pos 1_000)) (at (pos 100)) (at (pos 120)) ≡ pos 870)
    -- medians
    × (median_offset (pos 3 ∷ pos 5 ∷ pos 7 ∷ pos 9 ∷ []) ≡ pos 7)
    × (median_offset (pos 9 ∷ pos 3 ∷ pos 7 ∷ pos 5 ∷ []) ≡ pos 7)
    -- the smaller id wins ahead by 500,000, the larger loses; the larger wins by 500,001; the smaller loses behind by 500,001
    × ((elected 4 (pos 500_000)).session_id.0 ≡ 4)
    × ((elected 6 (pos 500_000)).session_id.0 ≡ 5)
    × ((elected 6 (pos 500_001)).session_id.0 ≡ 6)
    × ((elected 4 (negsuc 500_000)).session_id.0 ≡ 5)
    -- readopting: 500 no, 501 yes
    × ((elected 5 (pos 500)).session_offset ≡ pos 0)
    × ((elected 5 (pos 501)).session_offset ≡ pos 501)
    -- a commit that is not above what is known
    × ((time : ℤ) → moved time ≡ record { tempo = record { 0 = pos 500_001 }; beat_origin = record { 0 = pos 9_000_000 }; time_origin = plus (at time) (pos 500_001) })
    -- the phase of −1 in 4
    × (phase_of (of_int binary64 (negsuc 0)) (of_int binary64 (pos 4)) ≡ of_int binary64 (pos 3))
    -- enabled fresh: the kinds, the lengths, all content bytes, the timer
    × (map kind fresh ≡ 2 ∷ 4 ∷ [])
    × (map (λ o. length (content o)) fresh ≡ 41 ∷ 8 ∷ [])
    × (length (contents fresh) ≡ 49)
    × (timers fresh ≡ pos 251_000 ∷ [])
    -- the same in the answer's bytes: its head, and the timer at its end
    × (take 10 (answer fresh) ≡ 0 ∷ 2 ∷ 0 ∷ 49 ∷ 2 ∷ 4 ∷ 0 ∷ 41 ∷ 0 ∷ 8 ∷ [])
    × (drop 51 (answer fresh) ≡ 0 ∷ 0 ∷ 0 ∷ 0 ∷ 0 ∷ 3 ∷ 212 ∷ 120 ∷ [])
unfolding everything
marked = (refl, refl, refl, refl, refl, refl, refl, refl, refl, refl, refl, λ time. refl, minus_one_in_four, refl, refl, refl, refl, refl, refl)
