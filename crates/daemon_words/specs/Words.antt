-- The grammar of the words.
use Rattle.std.specs.Prelude.{ℕ, List, [], String, Option, Some, None, option_and_then, option_map, codes}
use Rattle.std.specs.{Prelude.if◌then◌else◌, Str.bytes_eq, Global.Global}
use Rattle.clap.specs.Words.{Kinds, Row, Text, first_of}
use Rattle.dir_values.specs.declared.digest.Fingerprint.{Fingerprint}
use Rattle.count_terms.specs.declared.newest.Newest.{Newest}
use Rattle.daemon_words.specs.{CommandLine.{faults, command_in}, Methods.newest_in, Rehearsals.IsWithinBounds}
use Rattle.daemon_words.specs.{Rehearsals.rehearse_in, Reports.report_in, Serving.serve_in, Values.{roster, moment}}
use Rattle.daemon_words.specs.declared.command.{Command.Command, Flavours.Flavours, Kind.Kind, Measures.Measures}
use Rattle.daemon_words.specs.declared.command.Subject.{Subject}
use Rattle.daemon_words.specs.declared.command.Command.TheVariants as command
use Rattle.daemon_words.specs.declared.command.Flavours.TheVariants as flavours
use Rattle.daemon_words.specs.declared.command.Kind.TheVariants as kind
use Rattle.daemon_words.specs.declared.command.Measures.TheVariants as measures
use Rattle.daemon_words.specs.declared.command.Subject.TheVariants as subject

-- the flavours that a word names
abbrev pub flavours_named : List ℕ → Option Flavours
flavours_named word =
    if bytes_eq word (codes "ns") then Some flavours.Ns
    else (if bytes_eq word (codes "microdesc") then Some flavours.Microdesc
    else (if bytes_eq word (codes "both") then Some flavours.Both
    else None))

-- the flavours that an option names: the ns flavour where it does not stand there
abbrev pub flavours_of : Option (List ℕ) → Option Flavours
flavours_of None = Some flavours.Ns
flavours_of (Some word) = flavours_named word

-- the flavours that stand among the values
abbrev pub flavours_in : List Row → Option Flavours
flavours_in options = flavours_of (first_of (codes "flavour") options)

-- `compute` for a roster and a moment, where both were read, with these flavours and this newest method
abbrev pub command_to_compute : Option (List Fingerprint) → Option ℕ → Flavours → Newest → Option Command
command_to_compute (Some members) (Some valid_after) wanted newest =
    Some (command.Compute (record { roster = members; valid_after = valid_after; flavours = wanted; newest = newest }))
command_to_compute _ _ wanted newest = None

-- `compute` with the texts of two options, these flavours and this newest method
abbrev pub compute_of : List ℕ → List ℕ → Flavours → Newest → Option Command
compute_of authorities valid_after wanted newest = command_to_compute (roster authorities) (moment valid_after) wanted newest

-- the same, where both options stand there, and flavours and a newest method are named
abbrev pub compute_with : Option (List ℕ) → Option (List ℕ) → Option Flavours → Option Newest → Option Command
compute_with (Some authorities) (Some valid_after) (Some wanted) (Some newest) =
    compute_of authorities valid_after wanted newest
compute_with _ _ _ _ = None

-- `compute` with the values of its options
abbrev pub compute_in : List Row → Option Command
compute_in options =
    compute_with (first_of (codes "authorities") options) (first_of (codes "valid-after") options) (flavours_in options)
    (newest_in options)

-- the kind of document that a word names
abbrev pub kind_named : List ℕ → Option Kind
kind_named word =
    if bytes_eq word (codes "vote") then Some kind.Vote
    else (if bytes_eq word (codes "cert") then Some kind.Cert
    else (if bytes_eq word (codes "consensus") then Some kind.Consensus
    else (if bytes_eq word (codes "descriptor") then Some kind.Descriptor
    else (if bytes_eq word (codes "micro") then Some kind.Micro
    else (if bytes_eq word (codes "detached") then Some kind.Detached
    else None)))))

-- what a word names that is checked or shown
abbrev pub subject_named : List ℕ → Option Subject
subject_named word =
    if bytes_eq word (codes "bandwidth") then Some subject.BandwidthFile else option_map subject.Document (kind_named word)

-- what stands among the values to be checked or shown
abbrev pub subject_in : List Row → Option Subject
subject_in options = option_and_then subject_named (first_of (codes "kind") options)

-- where measured bandwidths come from, by whether the flag stands among the words: clap tells `true` where it does
abbrev pub measures_named : List ℕ → Measures
measures_named word = if bytes_eq word (codes "true") then measures.File else measures.Station

-- the same of what clap tells, if it tells it
abbrev pub measures_of : Option (List ℕ) → Measures
measures_of None = measures.Station
measures_of (Some word) = measures_named word

-- where measured bandwidths come from, among the values
abbrev pub measures_in : List Row → Measures
measures_in values = measures_of (first_of (codes "bandwidth") values)

-- `make-vote` with these bandwidths, where a newest method is named
abbrev pub command_to_make_vote : Measures → Option Newest → Option Command
command_to_make_vote bandwidths (Some newest) = Some (command.MakeVote (record { bandwidths = bandwidths; newest = newest }))
command_to_make_vote bandwidths None = None

-- `make-vote` with the values of its options
abbrev pub make_vote_in : List Row → Option Command
make_vote_in options = command_to_make_vote (measures_in options) (newest_in options)

-- `serve` with the values of its options, where a newest method is named
abbrev pub command_to_serve : List Row → Option Newest → Option Command
command_to_serve options (Some newest) = option_map command.Serve (serve_in options (measures_in options) newest)
command_to_serve options None = None

-- `serve` with the values of its options
abbrev pub serve_with : List Row → Option Command
serve_with options = command_to_serve options (newest_in options)

-- the command of a name, with the values of its options: a line for each command
abbrev pub command_named : Text → List Row → Option Command
command_named name options =
    if bytes_eq name (codes "compute") then compute_in options
    else (if bytes_eq name (codes "check") then option_map command.Check (subject_in options)
    else (if bytes_eq name (codes "show") then option_map command.Show (subject_in options)
    else (if bytes_eq name (codes "make-vote") then make_vote_in options
    else (if bytes_eq name (codes "rehearse") then option_map command.Rehearse (rehearse_in options)
    else (if bytes_eq name (codes "report") then option_map command.Report (report_in options)
    else (if bytes_eq name (codes "serve") then serve_with options
    else None))))))

-- the command that was named, if nothing is wrong with the words
abbrev pub command_read : Kinds → Option (Text × List Row) → Option Command
command_read [] (Some named) = command_named named.0 named.1
command_read _ _ = None

-- the command that the words give, if they are of the grammar
abbrev pub command_of : List (String Global) → Option Command
command_of words = command_read (faults words) (command_in words)

-- the numbers of a rehearsal are within their bounds
abbrev pub KeepsBounds : Command → Type 0
KeepsBounds (command.Rehearse wanted) = IsWithinBounds wanted
KeepsBounds _ = Unit {0}
