-- The ping times that are kept beside the samples: none stands twice, and each is of the pong that gave the sample in its place.
use Rattle.std.specs.Prelude.{ℕ, ◌≡◌, refl, Bool, true, false, ◌&&◌, not, cond, ℤ, length, take, Option, Some, None}
use Rattle.std.proofs.Common.{arith, sym, ap, ap₂, ◌∙◌, subst}
use mathlib.Core.List.{List, [], ◌∷◌, ◌++◌, Memᴰ}
use Rattle.signed.specs.Laws.Signs.{eq_z_refl}
use Rattle.time.specs.declared.HostTime.{HostTime}
use Rattle.time.specs.Same.{same_time}
use Rattle.wire.specs.declared.NodeId.{NodeId}
use Rattle.wire.specs.declared.SocketAddrPlain.{SocketAddrPlain}
use Rattle.wire.specs.Parse.{parse}
use Rattle.lists.specs.Lists.{found, holds, first}
use Rattle.model.specs.Peers.{Samples, Peer, no_samples, sampled, new_peer}
use Rattle.model.specs.Engine.{new}
use Rattle.model.specs.Produce.{after_ping}
use Rattle.model.specs.Packet.{session_changed, after_alive, PongMsg, sample_of, owns, moves, moved, samples_with, measured, after_pong}
use Rattle.model.specs.Calls.{Call, packet, sampled_before, refusal_by, run}
use Rattle.model.specs.Laws.Calls.Messages.{pong_said}
use Rattle.lists.specs.Laws.Bools.{by_cond}
use Rattle.lists.specs.Laws.Each.{Each, nil, each₂, each_of, each_of_mem}
use Rattle.lists.specs.Laws.Distinct.{Distinct, no_two, apart, distinct_new}
use Rattle.lists.specs.Laws.Along.{Along, end, along_append, along_take, along_length}
use Rattle.model.specs.Laws.Calls.Kept.{KeepsPeer, SaidIn, Anything}
use Rattle.model.proofs.Laws.Calls.Kept.{anything_said, keeps_each, peers_run}
use Rattle.model.specs.Laws.Clerk.PingTimes.{FromPong}
use Rattle.wire.specs.declared.Message.{Message}

-- ---- none stands twice

-- the owner of a pong that is not refused has no sample that answers its ping
not_sampled : (ps : List Peer) (from : SocketAddrPlain) (m : PongMsg) (p : Peer) → first (owns from) ps ≡ Some p → refusal_by ps from (pong_said m) ≡ 0
    → sampled_before m.session_id m.ping_host_time p ≡ false
unfolding refusal_by
not_sampled ps from m p owner free = ap (holds (sampled_before m.session_id m.ping_host_time)) (sym owner) ∙ go (holds (sampled_before m.session_id m.ping_host_time) (first (owns from) ps)) free
  where
    go : (t : Bool) → ◌≡◌ {A = ℕ} (cond t 11 0) 0 → t ≡ false
    go true e = let o : ⊥ = omega arith in absurd o
    go false e = refl

abbrev Once : Samples → Type 0
Once s = Distinct s.ping_times

-- the time is new where p is measured and stays in its session
once_more : (m : PongMsg) (x : ℤ) (p : Peer) → sampled_before m.session_id m.ping_host_time p ≡ false → p.measuring ≡ true → Once p.samples
    → Once (sampled m.ping_host_time x (moved m.session_id p).samples)
unfolding sampled moved
once_more m x p fresh on h = by_cond (λ (s : Samples). Distinct (take 20 (s.ping_times ++ (m.ping_host_time ∷ [])))) (moves m.session_id p) no_samples p.samples
    (λ t. apart nil no_two)
    (λ t. distinct_new same_time (λ u. eq_z_refl u.0) 20 h m.ping_host_time
    (sym (ap₂ (λ (a b : Bool). a && not b && found (first (same_time m.ping_host_time) p.samples.ping_times)) on t) ∙ fresh))

keeps_once : KeepsPeer Anything (λ p. Once p.samples)
unfolding new_peer after_ping after_alive after_pong measured samples_with moved
keeps_once = record {
  fresh = λ from m now f s. no_two;
  pinged = λ now f p h. h;
  alive = λ from m now f s p h. by_cond Once (session_changed m p) no_samples p.samples (λ t. no_two) (λ t. h);
  pong = λ from m now f s ps p o free h. by_cond Once p.measuring (sampled m.ping_host_time (sample_of m now) (moved m.session_id p).samples) (moved m.session_id p).samples
      (λ on. once_more m (sample_of m now) p (not_sampled ps from m p o free) on h)
      (λ off. by_cond Once (moves m.session_id p) no_samples p.samples (λ t. no_two) (λ t. h));
}

-- a packet among these calls that says this
record HeardIn (cs : List Call) (from : SocketAddrPlain) (m : Option Message) (now : HostTime) : Type 0 where
  iface : ℕ
  bytes : List ℕ
  buf_size : ℕ
  called : Memᴰ (packet iface from bytes now buf_size) cs
  says : parse bytes ≡ m

heard_in : (cs : List Call) → Each (SaidIn (HeardIn cs)) cs
heard_in cs = each_of_mem cs (λ c m iface from bytes now buf_size e. record { iface = iface; bytes = bytes; buf_size = buf_size; called = subst (λ (d : Call). Memᴰ d cs) e m; says = refl })

module _ (cs : List Call) where
  abbrev FromPongs : Samples → Type 0
  FromPongs s = Along (FromPong cs) s.offsets s.ping_times

  from_another : (from : SocketAddrPlain) (m : PongMsg) (now : HostTime) → HeardIn cs from (pong_said m) now → (s : Samples) → FromPongs s → FromPongs (sampled m.ping_host_time (sample_of m now) s)
  unfolding sampled
  from_another from m now h s k = along_take 20 (along_append k (record {
    iface = h.iface;
    from = from;
    bytes = h.bytes;
    now = now;
    buf_size = h.buf_size;
    message = m;
    called = h.called;
    says = h.says;
    answers = refl;
    gives = refl;
  }))

  keeps_from_pongs : KeepsPeer (HeardIn cs) (λ p. FromPongs p.samples)
  unfolding new_peer after_ping after_alive after_pong measured samples_with moved
  keeps_from_pongs = record {
    fresh = λ from m now f s. end;
    pinged = λ now f p h. h;
    alive = λ from m now f s p h. by_cond FromPongs (session_changed m p) no_samples p.samples (λ t. end) (λ t. h);
    pong = λ from m now f s ps p o free h.
        let left : FromPongs (moved m.session_id p).samples = by_cond FromPongs (moves m.session_id p) no_samples p.samples (λ t. end) (λ t. h) in
        by_cond FromPongs p.measuring (sampled m.ping_host_time (sample_of m now) (moved m.session_id p).samples) (moved m.session_id p).samples
        (λ on. from_another from m now s (moved m.session_id p).samples left) (λ off. left);
  }

-- ---- after every list of calls

module _ (a : NodeId) (cs : List Call) where
  pub from_pongs : Each (λ p. FromPongs cs p.samples) (run (new a) cs).peers
  unfolding new
  from_pongs = peers_run (keeps_each (keeps_from_pongs cs)) (new a) nil (heard_in cs)

  pub times_once : Each (λ p. Distinct p.samples.ping_times × (length p.samples.ping_times ≡ length p.samples.offsets)) (run (new a) cs).peers
  unfolding new
  times_once = each₂ (λ p d l. (d, along_length l)) (peers_run (keeps_each keeps_once) (new a) nil (each_of anything_said cs)) from_pongs
