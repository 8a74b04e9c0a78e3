-- Every definition, opened by one name: `unfolding everything` lets a closed statement compute.
use Rattle.std.specs.Prelude.{ℕ}
use mathlib.Core.List.{flat_map}
use Rattle.signed.specs.Wrap.{mod64, wrap64}
use Rattle.big_endian.specs.Bytes.{bytes, number, number_at}
use Rattle.timeline.specs.Session.{default_state}
use Rattle.timeline.specs.Same.{same_timeline, same_start_stop, same_state}
use Rattle.wire.specs.Layout.{entry, timeline_bytes, start_stop_bytes, addr_bytes, mep4_entry, pgt_entry, discovery_head, alive_bytes, byebye_bytes, measurement_head, ping_bytes, pong_bytes}
use Rattle.wire.specs.Parse.{size_of, has_entry, first_entry, after_entry, scan, entries, last_good, timeline_of, start_stop_of, node_of, addr_of, time_of, alive_of, ping_of, pong_of, parse_discovery, parse_measurement, parse}
use Rattle.wire.specs.Same.{same_maybe_node, same_maybe_timeline, same_maybe_start_stop}
use Rattle.lists.specs.Lists.{first, keep, change, insert, upsert, without, best_from, best}
use Rattle.model.specs.Peers.{sampled, new_peer, peers_in, timelines_in, start_stops_in, insert_sorted, sorted, median_offset, sample}
use Rattle.model.specs.Engine.{new, with_state, with_interfaces, with_peers, with_num_session_peers, with_next_broadcast, timeline_to_ghost, timeline_to_host, start_stop_to_ghost, start_stop_to_host, our_alive}
use Rattle.model.specs.Election.{wins, readopts, meet, consider, consider_all, best_session, best_timeline, best_start_stop, resolved_state, changes, resolve_to, resolved, resolve_outputs, resolve_if}
use Rattle.model.specs.Produce.{broadcasts, after_broadcast, after_ping, pings, after_pings, lapse, earliest_ping, min_last_seen, or_timeout, next_timer, timer_outputs, session_peers, count_outputs, upkeep, produce_outputs}
use Rattle.model.specs.Packet.{unchanged, session_changed, news, after_alive, response, handle_alive_of, handle_alive, handle_byebye, handle_ping, moved, samples_with, still_measuring, measured, after_pong, handle_pong_of, handle_pong, handle_message}
use Rattle.model.specs.Commit.{max_beat_origin, move_to, above, max_start_stop_time, later_than, taken}
use Rattle.model.specs.Calls.{admit, then_produce, resolved_if_needed, take_message, refusal_by, handle_read, handle_packet, handle_timer, committed, commit_app_state, started, switched_on, next_node_id, switched_off, switch_on, switch_off, set_enabled, add_interface, remove_interface, handle_io_error, step, run, outcomes, left_by}
use Rattle.model.specs.Answer.{content, contents, answer, buffer_after}
use Rattle.model.specs.Preview.{first_report, previewed, preview}
use Rattle.model.specs.Laws.Calls.Stages.{polled, settled, timer, upkeep_outputs, upkeep_box}

unfoldable pub everything : ℕ
unfolding flat_map mod64 wrap64 bytes number number_at default_state entry timeline_bytes start_stop_bytes addr_bytes mep4_entry pgt_entry discovery_head alive_bytes byebye_bytes measurement_head ping_bytes pong_bytes size_of has_entry first_entry after_entry scan entries last_good timeline_of start_stop_of node_of addr_of time_of alive_of ping_of pong_of parse_discovery parse_measurement parse first keep change insert upsert without best_from best same_timeline same_start_stop same_state same_maybe_node same_maybe_timeline same_maybe_start_stop sampled new_peer peers_in timelines_in start_stops_in insert_sorted sorted median_offset sample new with_state with_interfaces with_peers with_num_session_peers with_next_broadcast timeline_to_ghost timeline_to_host start_stop_to_ghost start_stop_to_host our_alive wins readopts meet consider consider_all best_session best_timeline best_start_stop resolved_state changes resolve_to resolved resolve_outputs resolve_if broadcasts after_broadcast after_ping pings after_pings lapse earliest_ping min_last_seen or_timeout next_timer timer_outputs session_peers count_outputs upkeep polled settled timer upkeep_outputs upkeep_box produce_outputs unchanged session_changed news after_alive response handle_alive_of handle_alive handle_byebye handle_ping moved samples_with still_measuring measured after_pong handle_pong_of handle_pong handle_message max_beat_origin move_to above max_start_stop_time later_than taken admit then_produce resolved_if_needed take_message refusal_by handle_read handle_packet handle_timer committed commit_app_state started switched_on next_node_id switched_off switch_on switch_off set_enabled add_interface remove_interface handle_io_error step run outcomes left_by content contents answer buffer_after first_report previewed preview
everything = 0
