-- The Rust's test `==` of host times.
use Rattle.std.specs.Prelude.{Bool}
use Rattle.signed.specs.Equal.{eq_z}
use Rattle.time.specs.declared.HostTime.{HostTime}

abbrev pub same_time : HostTime → HostTime → Bool
same_time a b = eq_z a.0 b.0
