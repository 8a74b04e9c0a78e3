-- The bytes of an answer, and what the answer buffer holds after a call. Every number is big-endian.
use Rattle.std.specs.Prelude.{ℕ, length, drop}
use mathlib.Core.List.{List, ◌++◌, map, flat_map}
use Rattle.big_endian.specs.Bytes.{bytes}
use Rattle.wire.specs.Layout.{int_bytes, timeline_bytes, start_stop_bytes, addr_bytes}
use Rattle.model.specs.Engine.{Output, send, state_changed, num_peers_changed, set_timer}
use Rattle.model.specs.Calls.{Outcome, refused, done}

abbrev pub kind : Output → ℕ
kind (send iface to packet) = 1
kind (state_changed s) = 2
kind (num_peers_changed n) = 3
kind (set_timer t) = 4

-- interface, address and packet; the state's 41 bytes; the count; the time
unfoldable pub content : Output → List ℕ
content (send iface to packet) = bytes 4 iface ++ (addr_bytes to ++ packet)
content (state_changed s) = timeline_bytes s.timeline ++ start_stop_bytes s.start_stop
content (num_peers_changed n) = bytes 4 n
content (set_timer t) = int_bytes t.0

unfoldable pub contents : List Output → List ℕ
contents os = flat_map content os

-- how many outputs, how many bytes of contents; the kinds; the lengths; the contents
unfoldable pub answer : List Output → List ℕ
answer os = bytes 2 (length os) ++ (bytes 2 (length (contents os)) ++ (map kind os ++ (flat_map (λ o. bytes 2 (length (content o))) os ++ contents os)))

-- what the buffer of a call holds after it: the answer in front and the old bytes behind; a refused call leaves every byte
unfoldable pub buffer_after : Outcome → List ℕ → List ℕ
buffer_after (refused n) old = old
buffer_after (done e os) old = answer os ++ drop (length (answer os)) old
