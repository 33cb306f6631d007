-- How a client reads a stream.
use Rattle.wl_connection.specs.Reads.{Reading}
use Rattle.wl_client.specs.State.{State, with_core}
use Rattle.wl_client.specs.Reports.{Report, is_last, next_answer, after_next}

abbrev pub client_reading : Reading State Report
client_reading = record {
  core = λ state. state.core;
  with_core = with_core;
  answer = next_answer;
  after = after_next;
  is_last = is_last;
}
