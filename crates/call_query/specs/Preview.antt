-- What `preview_app_state` returns, in terms of the definition.
use Rattle.model.specs.Preview as model
use Rattle.call_query.specs.declared.preview.Preview as declared
use Rattle.call_query.specs.declared.preview.Preview.TheVariants.{Refused, Given}

-- the number, or the state and the micro-beats
abbrev pub preview_of : declared.Preview → model.Preview
preview_of (Refused n) = model.refused n
preview_of (Given s moved) = model.given s moved.0
