-- What the private functions hold and do, as the definition reads it.
use Rattle.wire.specs.Same.{same_node}
use Rattle.model.specs.Engine.{timeline_to_ghost, start_stop_to_ghost}
use Rattle.model.specs.Election.{Best, own_if}
use Rattle.peer_walks.specs.Inner.Known.{Known}
use Rattle.engine_state.specs.declared.OwnState.{OwnState}
use Rattle.election.specs.declared.session.Best as session

unfoldable pub best_of : session.Best → Best
best_of b = record { session = b.session; offset = b.offset.0 }

-- what is known of ourselves, in shared time: our own state, where we stay in our session
unfoldable pub own_known : Best → OwnState → Known
own_known b own = record {
  line = own_if (same_node b.session own.session_id) (timeline_to_ghost b.offset own.state.timeline);
  start_stop = own_if (same_node b.session own.session_id) (start_stop_to_ghost b.offset own.state.start_stop);
}
