-- Lists of calls that return what their contracts say exist, from every engine: so the theorems over such lists are not empty. The engines here are records of
-- the declared type, which asks nothing of a number's range; their tables have the declared length.
use Rattle.std.specs.Prelude.{ℕ, min, ◌^◌, ◌<◌, ◌≤◌, ◌≡◌, refl, pos, take, replicate, Option, Some, None}
use Rattle.std.proofs.Common.{arith, sym, subst, ◌∙◌, take_all}
use Rattle.std.proofs.Math.Path.{ap}
use mathlib.Core.List.{List, [], ◌∷◌, ◌++◌, map}
use Rattle.std.proofs.Math.ListN.{length}
use Rattle.std.proofs.lemmas.List.{length-map, length-replicate}
use Rattle.wire.specs.declared.NodeId.{NodeId}
use Rattle.wire.specs.declared.SocketAddrPlain.{SocketAddrPlain}
use Rattle.wire.specs.Laws.RoundTrip.{AddrFits}
use Rattle.model.specs.Peers.{Peer, Interface, peers_in}
use Rattle.model.specs.Engine.{Box, new, with_interfaces, with_peers, our_alive}
use Rattle.model.specs.Packet.{AliveMsg}
use Rattle.model.specs.Calls.{Call, packet, tick, commit, Outcome, refused, done, step, next, run}
use Rattle.model.specs.Answer.{buffer_after}
use Rattle.model.specs.Preview.{preview}
use Rattle.model.specs.Laws.Tools.Open.{everything}
use Rattle.model.specs.Laws.Tools.Scenes.{port, placed, on, alive, in_session, bye, pongs}
use Rattle.lists.specs.Laws.Each.{Each, nil, ◌▸◌, head, tail, each, each₂, each_of, each_append}
use Rattle.model.proofs.Laws.Calls.Reach.{reached}
use Rattle.model.specs.Laws.Calls.Within.{Within}
use Rattle.model.specs.Laws.Distance.Statement.{Commits, Hears}
use Rattle.model.specs.Laws.Distance.Wider.{Writes, TakesAlive, Newest, Bounded}
use Rattle.model.proofs.Laws.Distance.Rule.{rule_writes, rule_alive, rule_takes, rule_newest, rule_bounded}
use Rattle.model.proofs.Laws.Distance.TwoInterfaces.{beside, sender_calls_3, receiver_calls_3, asked_3, bytes_3, sent_3, commits_3, hears_3, shown_3, shows_3}
use Rattle.model.proofs.Laws.Distance.Witness.{node, at, here, sender_calls_1, receiver_calls_1, asked_1, bytes_1, sent_1, commits_1, hears_1, shown_1, shows_1}
use Rattle.interface_map.specs.declared.Interface as declared
use Rattle.interface_map.specs.Held.{interface, interfaces_of}
use Rattle.peer_table.specs.Laws.Tables.{Holdable, words_table, numbers_table, all_holdable, tables_hold}
use Rattle.engine_state.specs.declared.Engine.{Engine}
use Rattle.engine_state.specs.Held.{core_box, held}
use Rattle.call.specs.declared.Called.{Called}
use Rattle.call.specs.Called.{Returns}
use Rattle.call.specs.Laws.Returned.{returns_refused, returns_done}
use Rattle.call.specs.Laws.Within.{within_16, within_4}
use Rattle.call_query.specs.declared.preview.Preview as query
use Rattle.call_query.specs.declared.preview.Preview.TheVariants.{Given}
use Rattle.call_query.specs.Preview.{preview_of}
use Rattle.claims.specs.Read.{Read, outputs_by, outputs_in, last_count, count_in, counted, Reply}
use Rattle.claims.specs.Host.{buf_size_of, Lent, nothing, buffer, Led, led_on, call, answers, replies}
use Rattle.claims.specs.Laws.Addressed.{Addressed, Fitting, fitting_step, number_bytes, entry_bytes, head_bytes, alives_bytes, pongs_bytes}
use Rattle.claims.specs.Laws.Led.{new_run}
use Rattle.claims.specs.Laws.Claims.{host_count, host_outcomes, NearEngines, engines_distance}
use Rattle.claims.specs.Laws.Packets.{HostSends, host_sends, hosts_distance}

-- ---- an engine that holds a box

-- an interface as the code has it
abbrev slot_of : Interface → declared.Interface
slot_of i = record { id = record { 0 = i.id }; addr = i.addr }

-- a box as the code has it: the interfaces an array with a count, as long as their list, and the neighbours rows of two tables
pub engine_of : Box → Engine
engine_of b = record {
  core = record {
    node_id = b.node_id;
    enabled = b.enabled;
    session_id = b.session_id;
    session_offset = record { 0 = b.session_offset };
    state = b.state;
    interfaces = record { slots = map slot_of b.interfaces; count = length b.interfaces };
    count = length b.peers;
    num_session_peers = b.num_session_peers;
    next_broadcast = b.next_broadcast;
  };
  words = words_table b.peers;
  numbers = numbers_table b.peers;
}

module _ {A B : Type 0} (f : B → A) (g : A → B) where
  -- what is undone at each entry is undone over the list
  map_back : {xs : List A} → Each (λ x. f (g x) ≡ x) xs → map f (map g xs) ≡ xs
  map_back nil = refl
  map_back (◌▸◌ {x = x} {xs = xs} p h) = ap (λ (y : A). y ∷ map f (map g xs)) p ∙ ap (λ (ys : List A). x ∷ ys) (map_back h)

  -- a list that is put into an array of enough places, and read back up to its count
  held_part : (most : ℕ) (xs : List A) → length xs ≤ most → Each (λ x. f (g x) ≡ x) xs → map f (take (min (length xs) most) (map g xs)) ≡ xs
  held_part most xs few back = ap (map f) (take_all (min (length xs) most) (map g xs) (omega (arith, length-map xs g))) ∙ map_back back

-- a box that fits is held
pub held_engine : (b : Box) → Fitting b → held (engine_of b) ≡ b
unfolding core_box engine_of interfaces_of interface with_interfaces with_peers
held_engine b f =
    let w : Within b = f.within in
    ap (λ (is : List Interface). with_interfaces is (held (engine_of b))) (held_part interface slot_of 4 b.interfaces w.few_interfaces (each_of (λ i. refl) b.interfaces))
    ∙ ap (λ (ps : List Peer). with_peers ps b) (tables_hold b.peers w.few_peers (each₂ (λ p few narrow. record { few = few; narrow = narrow }) w.few_samples f.narrow))

-- what an engine holds fits, whatever its counts and its tables are
pub engine_within : (e : Engine) → Fitting (held e)
unfolding core_box
engine_within e =
    let h : Each Holdable (held e).peers = all_holdable e.core.count e.words e.numbers in
    record { within = record { few_peers = within_16 e; few_interfaces = within_4 e; few_samples = each (λ p q. q.few) h }; narrow = each (λ p q. q.narrow) h }

-- ---- calls that return what their contracts say

-- what is returned for an outcome
abbrev answering : Engine → Outcome → Called
answering e (refused n) = record { engine = e; number = n }
answering e (done b os) = record { engine = engine_of b; number = 0 }

-- it is what the contract says, if the outcome is the step's
answering_says : (e : Engine) (c : Call) → Addressed c → (o : Outcome) → step (held e) c ≡ o → Returns e c (answering e o)
answering_says e c a (refused n) h = returns_refused e c (answering e (refused n)) n h refl refl
answering_says e c a (done b os) h =
    let f : Fitting b = subst (λ (o : Outcome). Fitting (next (held e) o)) h (fitting_step (held e) (engine_within e) c a) in
    returns_done e c (answering e (done b os)) b os h refl (held_engine b f)

-- what a call may return
pub returned : (e : Engine) (c : Call) → Called
returned e c = answering e (step (held e) c)

-- it is what the contract says
pub returned_says : (e : Engine) (c : Call) → Addressed c → Returns e c (returned e c)
unfolding returned
returned_says e c a = answering_says e c a (step (held e) c) refl

-- a buffer of zeros as long as the call asks for, and what the contract says of it
zeros_lent : (e : Engine) (c : Call) → Lent e c
zeros_lent e c = go (buf_size_of c) refl
  where
    go : (o : Option ℕ) → buf_size_of c ≡ o → Lent e c
    go None h = nothing h
    go (Some n) h = buffer (replicate n 0) (buffer_after (step (held e) c) (replicate n 0)) (h ∙ ap Some (sym (length-replicate n 0))) refl

-- every engine can be led on by every list of calls whose packets are of bytes and from addresses of their type
pub can_be_led : (e : Engine) (cs : List Call) → Each Addressed cs → (last : Engine) × Led e cs last
can_be_led e [] h = (e, led_on e)
can_be_led e (c ∷ cs) h =
    let rest = can_be_led (returned e c).engine cs (tail h) in
    (rest.0, call e c (returned e c) (returned_says e c (head h)) (zeros_lent e c) cs rest.0 rest.1)

-- every new box is held
pub new_engine : (n : NodeId) → (e : Engine) × (held e ≡ new n)
unfolding new
new_engine n = (engine_of (new n), held_engine (new n) (record { within = record { few_peers = omega arith; few_interfaces = omega arith; few_samples = nil }; narrow = nil }))

-- ---- a host's count, on calls of node 1

-- an address of its type
small : (a : SocketAddrPlain) → a.ip < 2 ^ 32 → a.port < 2 ^ 16 → AddrFits a
small a ip port = record { ip = ip; port = port }

-- node 2 is heard, in the session of node 1
abbrev heard : List Call
heard = placed ∷ on ∷ alive 2 (in_session 1) ∷ []

-- and says that it goes
abbrev gone : List Call
gone = heard ++ (bye 2 ∷ [])

-- node 1 as it is made, and after these calls
pub first_1 : (e : Engine) × (held e ≡ new (node 1))
first_1 = new_engine (node 1)

pub heard_1 : (last : Engine) × Led first_1.0 heard last
heard_1 = can_be_led first_1.0 heard (tt ▸ tt ▸ (small (port 2) (omega arith) (omega arith), each_append (head_bytes _ 5 (node 2)) (entry_bytes _ (number_bytes 8 1))) ▸ nil)

-- however the calls are made, the host has 1 then, and 0 after the bye
module _ (e last : Engine) (made : held e ≡ new (node 1)) where
  pub host_counts_1 : (led : Led e heard last) → counted 0 (answers led) ≡ 1
  unfolding core_box everything
  host_counts_1 led = host_count (node 1) e heard last made led ∙ ap (λ (b : Box). length (peers_in b.session_id b.peers)) (new_run (node 1) e heard last made led)

  pub host_counts_0 : (led : Led e gone last) → counted 0 (answers led) ≡ 0
  unfolding core_box everything
  host_counts_0 led = host_count (node 1) e gone last made led ∙ ap (λ (b : Box). length (peers_in b.session_id b.peers)) (new_run (node 1) e gone last made led)

-- so it has 1 of the calls that were made on this engine
pub host_has_1 : counted 0 (answers heard_1.1) ≡ 1
host_has_1 = host_counts_1 first_1.0 heard_1.0 first_1.1 heard_1.1

-- by computation: in the bytes after the alive a host reads 1, and in those after the bye 0, whatever it had
pub read_1 : (n : ℕ) → count_in n (buffer_after (step (run (new (node 1)) (placed ∷ on ∷ [])) (alive 2 (in_session 1))) []) ≡ 1
unfolding everything count_in last_count outputs_in outputs_by
read_1 n = refl

pub read_0 : (n : ℕ) → count_in n (buffer_after (step (run (new (node 1)) heard) (bye 2)) []) ≡ 0
unfolding everything count_in last_count outputs_in outputs_by
read_0 n = refl

-- ---- a pong that comes twice

-- node 2's, on a ping of the time 7
abbrev ponged : List Call
ponged = on ∷ alive 2 (in_session 2) ∷ pongs 2 2 (pos 0) (pos 7) ∷ pongs 2 2 (pos 0) (pos 7) ∷ []

pub ponged_1 : (last : Engine) × Led first_1.0 ponged last
ponged_1 =
    let from = small (port 2) (omega arith) (omega arith) in
    let its_pong : Addressed (pongs 2 2 (pos 0) (pos 7)) = (from, pongs_bytes _ _ (entry_bytes _ (number_bytes 8 _))) in
    can_be_led first_1.0 ponged (tt ▸ (from, each_append (head_bytes _ 5 (node 2)) (entry_bytes _ (number_bytes 8 2))) ▸ its_pong ▸ its_pong ▸ nil)

-- however the calls are made, the host is turned down with 11 the second time, and node 2's ping times are 7
module _ (e last : Engine) (made : held e ≡ new (node 1)) (led : Led e ponged last) where
  pub host_ponged_twice : map (λ (r : Reply). r.number) (replies led) ≡ 0 ∷ 0 ∷ 0 ∷ 11 ∷ []
  unfolding everything
  host_ponged_twice = ap (map (λ (r : Reply). r.number)) (host_outcomes (node 1) e ponged last made led)

  pub engine_ponged_twice : map (λ (p : Peer). p.samples.ping_times) (held last).peers ≡ (at 7 ∷ []) ∷ []
  unfolding everything
  engine_ponged_twice = ap (λ (b : Box). map (λ (p : Peer). p.samples.ping_times) b.peers) (new_run (node 1) e ponged last made led)

-- so it is of this engine
pub host_has_11 : map (λ (r : Reply). r.number) (replies ponged_1.1) ≡ 0 ∷ 0 ∷ 0 ∷ 11 ∷ []
host_has_11 = host_ponged_twice first_1.0 ponged_1.0 first_1.1 ponged_1.1

-- ---- the distance rule of engines, at the first lists of calls that meet its premises

-- the receiver as it is made
pub second_1 : (e : Engine) × (held e ≡ new (node 2))
second_1 = new_engine (node 2)

-- the sender, which is node 1, as its commit begins
pub sender_1 : (last : Engine) × Led first_1.0 sender_calls_1 last
unfolding sender_calls_1
sender_1 = can_be_led first_1.0 sender_calls_1 (tt ▸ tt ▸ tt ▸ nil)

-- the receiver as the packet comes
pub receiver_1 : (last : Engine) × Led second_1.0 receiver_calls_1 last
unfolding receiver_calls_1
receiver_1 =
    let from = small here (omega arith) (omega arith) in
    can_be_led second_1.0 receiver_calls_1
    (tt ▸ tt ▸ (from, alives_bytes _ _ _ _ _ _) ▸ (from, pongs_bytes _ _ (entry_bytes _ (number_bytes 8 _))) ▸ (from, alives_bytes _ _ _ _ _ _) ▸ nil)

-- what the call returns that takes the packet
pub called_1 : Called
called_1 = returned receiver_1.0 (packet 7 here bytes_1 (at 5000) 4096)

addressed_1 : Addressed (packet 7 here bytes_1 (at 5000) 4096)
unfolding bytes_1 our_alive
addressed_1 = (small here (omega arith) (omega arith), alives_bytes _ _ _ _ _ _)

-- what the sender holds is what the definition's run comes to
sender_is_1 : held sender_1.0 ≡ run (new (node 1)) sender_calls_1
sender_is_1 = new_run (node 1) first_1.0 sender_calls_1 sender_1.0 first_1.1 sender_1.1

-- so it is of the receiver
receiver_is_1 : held receiver_1.0 ≡ run (new (node 2)) receiver_calls_1
receiver_is_1 = new_run (node 2) second_1.0 receiver_calls_1 receiver_1.0 second_1.1 receiver_1.1

-- the rule's premise on the sender
commits_held_1 : Commits (held sender_1.0) asked_1 (at 3000) 4096 bytes_1 sent_1
commits_held_1 = subst (λ (x : Box). Commits x asked_1 (at 3000) 4096 bytes_1 sent_1) (sym sender_is_1) commits_1

-- the rule's premise on the receiver
hears_held_1 : Hears (held sender_1.0) sent_1 (held receiver_1.0) 7 here bytes_1 (at 5000) 4096
hears_held_1 =
    subst (λ (x : Box). Hears x sent_1 (held receiver_1.0) 7 here bytes_1 (at 5000) 4096) (sym sender_is_1)
    (subst (λ (y : Box). Hears (run (new (node 1)) sender_calls_1) sent_1 y 7 here bytes_1 (at 5000) 4096) (sym receiver_is_1) hears_1)

-- what the code's preview returns on the sender
pub preview_1 : query.Preview
preview_1 = Given shown_1 (record { 0 = pos 1_000_001 })

previews_1 : preview_of preview_1 ≡ preview (held sender_1.0) asked_1 (at 3000)
unfolding preview_1
previews_1 = sym (ap (λ (x : Box). preview x asked_1 (at 3000)) sender_is_1 ∙ shows_1)

-- so the rule holds of these two engines
pub engines_apart_1 : NearEngines sender_1.0 asked_1 preview_1 called_1.engine
unfolding called_1
engines_apart_1 =
    engines_distance (node 1) (node 2) first_1.0 second_1.0 sender_1.0 receiver_1.0 sender_calls_1 receiver_calls_1 first_1.1 sender_1.1 second_1.1 receiver_1.1
    asked_1 (at 3000) (at 5000) 4096 4096 7 here bytes_1 sent_1 called_1 (returned_says receiver_1.0 (packet 7 here bytes_1 (at 5000) 4096) addressed_1) preview_1 previews_1
    (omega arith) commits_held_1 hears_held_1

-- ---- the rule of a packet that a host reads, at the third lists: it leaves by the sender's second interface

pub second_3 : (e : Engine) × (held e ≡ new (node 4))
second_3 = new_engine (node 4)

pub sender_3 : (last : Engine) × Led first_1.0 sender_calls_3 last
unfolding sender_calls_3
sender_3 = can_be_led first_1.0 sender_calls_3 (tt ▸ tt ▸ tt ▸ tt ▸ tt ▸ tt ▸ tt ▸ tt ▸ nil)

pub receiver_3 : (last : Engine) × Led second_3.0 receiver_calls_3 last
unfolding receiver_calls_3
receiver_3 =
    let from = small beside (omega arith) (omega arith) in
    let pong = pongs_bytes _ _ (entry_bytes _ (number_bytes 8 _)) in
    can_be_led second_3.0 receiver_calls_3 (tt ▸ tt ▸ tt ▸ tt ▸ tt ▸ tt ▸ (from, alives_bytes _ _ _ _ _ _) ▸ (from, pong) ▸ (from, pong) ▸ nil)

pub called_3 : Called
called_3 = returned receiver_3.0 (packet 7 beside bytes_3 (at 5000) 4096)

addressed_3 : Addressed (packet 7 beside bytes_3 (at 5000) 4096)
unfolding bytes_3 our_alive
addressed_3 = (small beside (omega arith) (omega arith), alives_bytes _ _ _ _ _ _)

sender_is_3 : held sender_3.0 ≡ run (new (node 1)) sender_calls_3
sender_is_3 = new_run (node 1) first_1.0 sender_calls_3 sender_3.0 first_1.1 sender_3.1

receiver_is_3 : held receiver_3.0 ≡ run (new (node 4)) receiver_calls_3
receiver_is_3 = new_run (node 4) second_3.0 receiver_calls_3 receiver_3.0 second_3.1 receiver_3.1

-- in a buffer of zeros that the commit was lent the host reads the packet
pub host_sends_3 : HostSends sender_3.0 asked_3 (at 3000) 4096 bytes_3
host_sends_3 =
    let c : Call = commit asked_3 (at 3000) 4096 in
    host_sends sender_3.0 asked_3 (at 3000) 4096 (returned sender_3.0 c) (returned_says sender_3.0 c tt) (replicate 4096 0) (buffer_after (step (held sender_3.0) c) (replicate 4096 0))
    (length-replicate {A = ℕ} 4096 0) refl
    (subst (λ (x : Box). Writes x asked_3 (at 3000) 4096 bytes_3) (sym sender_is_3) (rule_writes commits_3.sends))

-- what the packet says
abbrev alive_3 : AliveMsg
alive_3 = rule_alive commits_3.sends

takes_3 : TakesAlive (held receiver_3.0) 7 beside bytes_3 (at 5000) 4096 alive_3
takes_3 =
    subst (λ (y : Box). TakesAlive y 7 beside bytes_3 (at 5000) 4096 alive_3) (sym receiver_is_3)
    (rule_takes ((reached (node 1) sender_calls_3).node (omega arith)) commits_3.sends hears_3.takes)

newest_3 : Newest (held receiver_3.0) alive_3 sent_3
newest_3 = subst (λ (y : Box). Newest y alive_3 sent_3) (sym receiver_is_3) (rule_newest commits_3.sends hears_3.takes)

bounded_3 : Bounded (held sender_3.0) asked_3 (held receiver_3.0)
bounded_3 =
    subst (λ (x : Box). Bounded x asked_3 (held receiver_3.0)) (sym sender_is_3)
    (subst (λ (y : Box). Bounded (run (new (node 1)) sender_calls_3) asked_3 y) (sym receiver_is_3) (rule_bounded commits_3 hears_3))

pub preview_3 : query.Preview
preview_3 = Given shown_3 (record { 0 = pos 1_000_000 })

previews_3 : preview_of preview_3 ≡ preview (held sender_3.0) asked_3 (at 3000)
unfolding preview_3
previews_3 = sym (ap (λ (x : Box). preview x asked_3 (at 3000)) sender_is_3 ∙ shows_3)

-- so the rule holds of the bytes that this host read
pub hosts_apart_3 : NearEngines sender_3.0 asked_3 preview_3 called_3.engine
unfolding called_3
hosts_apart_3 =
    hosts_distance (node 1) (node 4) first_1.0 second_3.0 sender_3.0 receiver_3.0 sender_calls_3 receiver_calls_3 first_1.1 sender_3.1 second_3.1 receiver_3.1
    asked_3 (at 3000) (at 5000) 4096 4096 7 beside bytes_3 alive_3 sent_3 called_3 preview_3 (omega arith) previews_3 host_sends_3
    (returned_says receiver_3.0 (packet 7 beside bytes_3 (at 5000) 4096) addressed_3) takes_3 newest_3 bounded_3

-- ---- what a host has of a list of calls, one of which is refused

-- the tick has too short a buffer
abbrev short : List Call
short = placed ∷ on ∷ tick (at 600) 4095 ∷ alive 2 (in_session 1) ∷ bye 2 ∷ []

-- however the calls are made, it is turned down under the number 2, and all others are done
module _ (e last : Engine) (made : held e ≡ new (node 1)) (led : Led e short last) where
  pub host_numbers : map (λ (r : Reply). r.number) (replies led) ≡ 0 ∷ 0 ∷ 2 ∷ 0 ∷ 0 ∷ []
  unfolding everything
  host_numbers = ap (map (λ (r : Reply). r.number)) (host_outcomes (node 1) e short last made led)

  -- the kinds of what is read: 1 is a packet, 2 the state, 3 the count, 4 the timer
  pub host_kinds : map (λ (r : Reply). map (λ (o : Read). o.kind) r.outputs) (replies led) ≡ [] ∷ (2 ∷ 1 ∷ 4 ∷ []) ∷ [] ∷ (1 ∷ 1 ∷ 4 ∷ 3 ∷ []) ∷ (4 ∷ 3 ∷ []) ∷ []
  unfolding everything
  host_kinds = ap (map (λ (r : Reply). map (λ (o : Read). o.kind) r.outputs)) (host_outcomes (node 1) e short last made led)
