-- What the derived comparisons of the counters say: `==` is `eq_z` of the numbers, and `<` and `<=` are their order.
use Rattle.std.proofs.Common.{◌≡◌, ℤ, int_eq, int_lt, int_le, is_lt, is_le, rules}
use Rattle.std.specs.Ordering.{int_cmp, is_some_and}
use Rattle.signed.specs.Equal.{eq_z}
use Rattle.time.specs.Same.{same_time}
use Rattle.time.specs.declared.HostTime.{HostTime}
use Rattle.time.specs.declared.Duration.{Duration}
use Rattle.time.specs.declared.MicroBeats.{MicroBeats}
use Rattle.time.specs.declared.TempoWire.{TempoWire}
use Rattle.time.specs.contracts.HostTimePartialEq.TheImpl as times_equal
use Rattle.time.specs.contracts.HostTimePartialOrd.TheImpl as times_ordered
use Rattle.time.specs.contracts.DurationPartialEq.TheImpl as durations_equal
use Rattle.time.specs.contracts.MicroBeatsPartialEq.TheImpl as beats_equal
use Rattle.time.specs.contracts.MicroBeatsPartialOrd.TheImpl as beats_ordered
use Rattle.time.specs.contracts.TempoWirePartialEq.TheImpl as tempos_equal

pub equal_is : (a b : ℤ) → int_eq a b ≡ eq_z a b
equal_is a b = search rules

pub less_is : (a b : ℤ) → is_lt (int_cmp a b) ≡ int_lt a b
less_is a b = search rules

pub at_most_is : (a b : ℤ) → is_le (int_cmp a b) ≡ int_le a b
at_most_is a b = search rules

-- ---- the same of each counter

pub host_time_is : (a b : HostTime)
    → (times_equal.eq-value.it a b ≡ same_time a b)
    × (is_some_and is_lt (times_ordered.partial_cmp-value.it a b) ≡ int_lt a.0 b.0)
    × (is_some_and is_le (times_ordered.partial_cmp-value.it a b) ≡ int_le a.0 b.0)
host_time_is a b = (equal_is a.0 b.0, less_is a.0 b.0, at_most_is a.0 b.0)

pub duration_is : (a b : Duration) → durations_equal.eq-value.it a b ≡ eq_z a.0 b.0
duration_is a b = equal_is a.0 b.0

pub micro_beats_is : (a b : MicroBeats)
    → (beats_equal.eq-value.it a b ≡ eq_z a.0 b.0)
    × (is_some_and is_lt (beats_ordered.partial_cmp-value.it a b) ≡ int_lt a.0 b.0)
    × (is_some_and is_le (beats_ordered.partial_cmp-value.it a b) ≡ int_le a.0 b.0)
micro_beats_is a b = (equal_is a.0 b.0, less_is a.0 b.0, at_most_is a.0 b.0)

pub tempo_wire_is : (a b : TempoWire) → tempos_equal.eq-value.it a b ≡ eq_z a.0 b.0
tempo_wire_is a b = equal_is a.0 b.0
