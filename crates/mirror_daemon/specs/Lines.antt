-- The line that each status of a mirror writes, and its number.
use Rattle.std.specs.Prelude.{ℕ, List, [], ◌∷◌, ◌++◌, Option, codes}
use Rattle.dir_bytes.specs.{Streams.WritesAll, declared.writing.WriteAll.WriteAll}
use Rattle.item_terms.specs.Bytes.{line_feed}
use Rattle.mirror_daemon.specs.declared.status.MirrorStatus.{MirrorStatus}
use Rattle.mirror_daemon.specs.declared.status.MirrorStatus.TheVariants as status

-- the line of a status, none where the gate was closed
abbrev pub line_of : MirrorStatus → List ℕ
line_of status.Done = []
line_of status.Memory = codes "want of memory" ++ line_feed ∷ []
line_of status.BadWords = codes "bad words" ++ line_feed ∷ []
line_of status.Gate = codes "gate fault" ++ line_feed ∷ []

-- the number of a status
abbrev pub number_of : MirrorStatus → ℕ
number_of status.Done = 0
number_of status.Memory = 1
number_of status.BadWords = 2
number_of status.Gate = 11

-- a line was written, whole where the sink did not fail
abbrev pub Writes : Option (List ℕ) → Option (List ℕ) → ℕ → ℕ → List ℕ → Type 0
Writes old new before now line = (answer : WriteAll) × WritesAll old new before now line answer
