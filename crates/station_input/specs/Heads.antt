-- What is kept of the items of a station input that stand once.
use Rattle.std.specs.Prelude.{List, None}
use Rattle.frame_terms.specs.declared.{document.Taken.Taken, keyword.Keyword.TheVariants.{Own, Contact, Schedule}}
use Rattle.frame_values.specs.{declared.values.Value.Value, Values.{item_at, text_if}}
use Rattle.authority_certs.specs.Heads as cert
use Rattle.station_input.specs.{declared.{frame_said.StationValue.StationValue, head.Head.Head}, Saying.no_schedule}
use Rattle.station_input.specs.Saying.{no_source, schedule_in, source_in}
use Rattle.vote_terms.specs.ListLines.{lists_in, no_lists}

-- what is kept where nothing was read
abbrev pub no_head : Head
no_head = record {
  source = no_source;
  contact = None;
  schedule = no_schedule;
  lists = no_lists;
  certificate = cert.no_head;
}

-- what is kept after the certificate
abbrev pub with_certificate : Head → List (Taken (Value StationValue)) → Head
with_certificate head taken = record head { certificate = cert.head_of taken }

-- what is kept after all the rest
abbrev pub with_station : Head → List (Taken (Value StationValue)) → Head
with_station head taken = record head {
  source = source_in (item_at taken Own);
  contact = text_if (item_at taken Contact);
  schedule = schedule_in (item_at taken Schedule);
  lists = lists_in taken;
}
