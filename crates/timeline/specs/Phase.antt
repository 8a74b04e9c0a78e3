-- The phase of a beat in a quantum.
use Rattle.std.specs.Prelude.{cond, Float}
use Rattle.std.specs.Float.{binary64}
use Rattle.std.specs.Float.Ieee.{add, mul, div, rem, eq}
use Rattle.float.specs.Whole.{abs_of, floor_of}
use Rattle.time.specs.Convert.{zero}

-- how many quanta q are added, so that what is divided is not negative: floor((|beat| + q) / q)
unfoldable pub quantum_bins : Float → Float → Float
quantum_bins beat q = floor_of (div binary64 (add binary64 (abs_of beat) q) q)

-- (beat + floor((|beat| + q) / q) × q) % q, with q the quantum's size; 0 for quantum 0
unfoldable pub phase_of : Float → Float → Float
phase_of beat quantum =
    let q = abs_of quantum in
    cond (eq q zero) zero (rem binary64 (add binary64 beat (mul binary64 (quantum_bins beat q) q)) q)
