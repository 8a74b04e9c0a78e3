-- 73 outputs are reached: calls from a new engine on, the last of which puts out as many as a call can.
use Rattle.std.specs.Prelude.{ℕ, zero, suc, ◌≡◌, refl, true, false, List, [], ◌∷◌, ◌++◌, map, ℤ, pos, length, drop, None}
use Rattle.time.specs.declared.HostTime.{HostTime}
use Rattle.timeline.specs.Session.{default_state}
use Rattle.wire.specs.Layout.{alive_bytes, ping_bytes, pong_bytes}
use Rattle.model.specs.Engine.{new}
use Rattle.model.specs.Calls.{Call, packet, switch, interface_added, step, run, outputs_of}
use Rattle.model.specs.Laws.Tools.Open.{everything}

-- so many numbers, from k up
unfoldable pub count : ℕ → ℕ → List ℕ
count zero k = []
count (suc n) k = k ∷ count n (suc k)

abbrev at : ℕ → HostTime
at t = record { 0 = pos t }

-- neighbour n's alive in session 2, with a line of a beat origin
abbrev alive_from : ℤ → HostTime → ℕ → Call
alive_from beat now n =
    packet 1 (record { ip = n; port = n })
    (alive_bytes (record { 0 = n }) (record { 0 = 2 }) (record { tempo = record { 0 = pos 500_000 }; beat_origin = record { 0 = beat }; time_origin = at 0 }) default_state.start_stop None false)
    now 4096

-- its pong to a ping of time 10, with its shared time
abbrev pong_from : HostTime → ℕ → Call
pong_from ghost n = packet 1 (record { ip = n; port = n }) (pong_bytes (record { 0 = 2 }) ghost (drop 9 (ping_bytes (at 10) None))) (at 20) 4096

-- Four interfaces; sixteen neighbours are found and measured, the last one at another offset, and all but that one are heard again.
unfoldable pub before : List Call
before =
    switch true (at 1) 4096
    ∷ (map (λ n. interface_added n (record { ip = n; port = n })) (count 4 1)
    ++ (map (alive_from (pos 0) (at 10)) (count 16 10)
    ++ (map (pong_from (at 10_000_000)) (count 15 10)
    ++ (pong_from (at 10_010_000) 25
    ∷ map (alive_from (pos 0) (at 4_000_000)) (count 15 10)))))

-- when that one has been silent for 6 s and all pings are due, a neighbour tells of a new line
unfoldable pub fullest : Call
fullest = alive_from (pos 1_000_000) (at 6_000_100) 10

-- the answer to the alive, a state, 4 broadcasts, 64 pings, another state, the timer and the count
pub seventy_three : length (outputs_of (step (run (new (record { 0 = 1 })) before) fullest)) ≡ 73
unfolding everything before fullest count
seventy_three = refl
