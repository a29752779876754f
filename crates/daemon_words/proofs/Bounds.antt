-- The numbers of a rehearsal that words give are within their bounds.
use Rattle.std.proofs.Common.{◌≡◌, ℕ, Bool, true, false, List, Option, Some, None, refl, arith}
use Rattle.std.{proofs.lemmas.Bool.Decides.nat_tests, specs.Prelude.{IfSome, codes, if◌then◌else◌, option_map}}
use Rattle.std.specs.Str.{bytes_eq}
use Rattle.clap.specs.Words.{Row, Text, first_of}
use Rattle.dir_bytes.specs.Fields.{number}
use Rattle.dir_values.specs.declared.digest.Fingerprint.{Fingerprint}
use Rattle.count_terms.specs.declared.newest.Newest.{Newest}
use Rattle.daemon_words.specs.{Methods.newest_in, Rehearsals.{IsWithinBounds, is_within, numbers_of, rehearse_in}}
use Rattle.daemon_words.specs.{Rehearsals.rehearse_with, Reports.report_in, Serving.serve_in, Words.KeepsBounds}
use Rattle.daemon_words.specs.Words.{command_named, compute_with, command_to_compute, flavours_in, measures_in}
use Rattle.daemon_words.specs.Words.{make_vote_in, serve_with, command_to_serve, subject_in, command_to_make_vote}
use Rattle.daemon_words.specs.declared.command.{Measures.Measures, Command.Command, Flavours.Flavours, Subject.Subject}
use Rattle.daemon_words.specs.declared.{rehearsal.Rehearse.Rehearse, report.Report.Report, serving.Serve.Serve}
use Rattle.daemon_words.specs.declared.command.Command.TheVariants as command

-- what holds either way holds of a choice
either : (b : Bool) {A : Type 0} (P : A → Type 0) (first second : A) → P first → P second
    → P (if b then first else second)
either true P first second p q = p
either false P first second p q = q

chosen : (seed relays authorities : ℕ) (b : Bool) → is_within relays authorities ≡ b
    → IfSome (if b then Some (record { seed = seed; relays = relays; authorities = authorities }) else None) IsWithinBounds
chosen seed relays authorities true is = record {
  relays = grind (arith, nat_tests, is);
  some = grind (arith, nat_tests, is);
  few = grind (arith, nat_tests, is);
}
chosen seed relays authorities false is = tt

of_numbers : (seed relays authorities : Option ℕ) → IfSome (numbers_of seed relays authorities) IsWithinBounds
of_numbers (Some seed) (Some relays) (Some authorities) =
    chosen seed relays authorities (is_within relays authorities) refl
of_numbers (Some seed) (Some relays) None = tt
of_numbers (Some seed) None authorities = tt
of_numbers None relays authorities = tt

of_texts : (seed relays authorities : Option (List ℕ)) → IfSome (rehearse_with seed relays authorities) IsWithinBounds
of_texts (Some seed) (Some relays) (Some authorities) =
    of_numbers (number 18446744073709551615 seed) (number 4294967295 relays) (number 4294967295 authorities)
of_texts (Some seed) (Some relays) None = tt
of_texts (Some seed) None authorities = tt
of_texts None relays authorities = tt

abbrev Keeps : Option Command → Type 0
Keeps given = IfSome given KeepsBounds

rehearse_keeps : (wanted : Option Rehearse) → IfSome wanted IsWithinBounds → Keeps (option_map command.Rehearse wanted)
rehearse_keeps None within = tt
rehearse_keeps (Some wanted) within = within

check_keeps : (named : Option Subject) → Keeps (option_map command.Check named)
check_keeps None = tt
check_keeps (Some named) = tt

show_keeps : (named : Option Subject) → Keeps (option_map command.Show named)
show_keeps None = tt
show_keeps (Some named) = tt

computing_keeps : (members : Option (List Fingerprint)) (valid_after : Option ℕ) (wanted : Flavours) (newest : Newest)
    → Keeps (command_to_compute members valid_after wanted newest)
computing_keeps (Some members) (Some valid_after) wanted newest = tt
computing_keeps (Some members) None wanted newest = tt
computing_keeps None valid_after wanted newest = tt

compute_keeps : (authorities valid_after : Option (List ℕ)) (wanted : Option Flavours) (newest : Option Newest)
    → Keeps (compute_with authorities valid_after wanted newest)
compute_keeps (Some authorities) (Some valid_after) (Some wanted) (Some newest) = computing_keeps _ _ wanted newest
compute_keeps (Some authorities) (Some valid_after) (Some wanted) None = tt
compute_keeps (Some authorities) (Some valid_after) None newest = tt
compute_keeps (Some authorities) None wanted newest = tt
compute_keeps None valid_after wanted newest = tt

vote_keeps : (bandwidths : Measures) (newest : Option Newest) → Keeps (command_to_make_vote bandwidths newest)
vote_keeps bandwidths (Some newest) = tt
vote_keeps bandwidths None = tt

report_keeps : (wanted : Option Report) → Keeps (option_map command.Report wanted)
report_keeps None = tt
report_keeps (Some wanted) = tt

serve_keeps : (wanted : Option Serve) → Keeps (option_map command.Serve wanted)
serve_keeps None = tt
serve_keeps (Some wanted) = tt

serving_keeps : (values : List Row) (newest : Option Newest) → Keeps (command_to_serve values newest)
serving_keeps values (Some newest) = serve_keeps (serve_in values (measures_in values) newest)
serving_keeps values None = tt

-- a line for each command
pub named_keeps : (name : Text) (values : List Row) → Keeps (command_named name values)
named_keeps name values =
    either (bytes_eq name (codes "compute")) Keeps _ _ (compute_keeps _ _ (flavours_in values) (newest_in values))
    (either (bytes_eq name (codes "check")) Keeps _ _ (check_keeps (subject_in values))
    (either (bytes_eq name (codes "show")) Keeps _ _ (show_keeps (subject_in values))
    (either (bytes_eq name (codes "make-vote")) Keeps (make_vote_in values) _
    (vote_keeps (measures_in values) (newest_in values))
    (either (bytes_eq name (codes "rehearse")) Keeps _ _ (rehearse_keeps (rehearse_in values)
    (of_texts (first_of (codes "seed") values) (first_of (codes "relays") values) (first_of (codes "authorities") values)))
    (either (bytes_eq name (codes "report")) Keeps _ _ (report_keeps (report_in values))
    (either (bytes_eq name (codes "serve")) Keeps (serve_with values) None
    (serving_keeps values (newest_in values)) tt))))))
