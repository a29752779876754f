use Rattle.maker_laws.proofs.GivenLines.{given_short}
use Rattle.maker_laws.proofs.station_line_laws.given_lines_are_short.Goals as goal

pub returns : goal.returns
returns c = given_short
