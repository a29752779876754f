use Rattle.std.proofs.Common.{◌≡◌, List, [], ◌∷◌, ℕ, Bool, false, map, length, replicate, ap, sym, ◌∙◌}
use Rattle.dir_values.{specs.{Arguments.Argument, FlagSets.has_flag}, proofs.ArgumentWords.arguments_words}
use Rattle.item_terms.specs.Words.{words_of}
use Rattle.consensus_calc.{specs.Marks.flag_marks, proofs.Marking.{marked_more, marked_none, marked_start}}
use Rattle.consensus_calc.proofs.Marking.{length-marked, length_start, marks_of_set}
use Rattle.consensus_calc.proofs.marks.mark.Goals as goal

pub arguments-init : goal.arguments-init
arguments-init c =
    let known = c.args.known.now in
    let words = map (λ (a : Argument). a.text) c.at-arguments.result in
    let unset : c.unmark.new.marks.items ≡ replicate (length known) false = c.in_ok-unmark.ensures ∙ ap (λ (n : ℕ). replicate n false) c.len.ensures.value in
    record {
      marks = ap (λ (ms : List Bool). flag_marks known ms words) unset ∙ marked_start known words
          ∙ ap (λ (ws : List (List ℕ)). map (λ flag. has_flag ws flag) known) (ap (λ (l : List Argument). map (λ (a : Argument). a.text) l) c.at-arguments.ensures ∙ arguments_words 0 c.args.text.now);
      long = ap (λ (l : List Bool). length l) unset ∙ length_start known;
    }

pub arguments-preserved : goal.arguments-preserved
arguments-preserved c =
    let known = c.args.known.now in
    let marks = c.arguments.marks.items in
    let word = c.in-Some.argument.text.now in
    let rest = map (λ (a : Argument). a.text) c.next.new.self in
    record {
      marks = ap (λ (ms : List Bool). flag_marks known ms rest) c.mark_one.ensures ∙ marked_more known marks word rest
          ∙ ap (λ (l : List Argument). flag_marks known marks (map (λ (a : Argument). a.text) l)) (sym c.in-Some.ensures.taken) ∙ c.arguments.invariant.marks;
      long = ap (λ (l : List Bool). length l) c.mark_one.ensures ∙ length-marked known marks (word ∷ []) c.arguments.invariant.long;
    }

pub returns : goal.returns
returns c =
    let known = c.args.known.now in
    let marks = c.arguments.marks.items in
    sym (marked_none known marks c.arguments.invariant.long)
    ∙ ap (λ (l : List Argument). flag_marks known marks (map (λ (a : Argument). a.text) l)) (sym c.in_default.ensures.taken.0) ∙ c.arguments.invariant.marks
    ∙ marks_of_set known (words_of c.args.text.now)
