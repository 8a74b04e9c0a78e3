-- The list of a packet call's elections leaves none out: where each of them keeps session and offset, the call does.
-- The definitions; the theorems stand in proofs/Laws/Distance/Elections.
use Rattle.std.specs.Prelude.{◌≡◌}
use Rattle.model.specs.Engine.{Box}

-- x is in e's session, at e's offset
pub record Stays (e x : Box) : Type 0 where
  pub session : x.session_id ≡ e.session_id
  pub offset : x.session_offset ≡ e.session_offset
