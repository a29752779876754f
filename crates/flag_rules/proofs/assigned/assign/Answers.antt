use Rattle.std.{proofs.Common.{rules, ◌≡◌, ◌∙◌, sym, ap, get_or}, specs.Prelude.IsTrue}
use Rattle.flag_rules.{specs.Flags.flags_of, proofs.RuledRelays.{ruled_again, are_rulings}}
use Rattle.flag_rules.proofs.assigned.assign.Goals as goal

pub returns-clause-allowed : goal.returns-clause-allowed
returns-clause-allowed g c =
    let ruled = c.in_ok-ruled.ruled.items in
    are_rulings (λ facts ruling. IsTrue (g.R.Rules.allows c.args.hook.now.rules facts ruling)) ruled
    c.args.relays.now c.new.result (search rules) (search rules) (λ k d lt.
    c.requires.allowed (get_or ruled k d).facts (get_or ruled k d).ruling (c.in_ok-ruled.ensures.asked k d lt))

pub returns-clause-asked : goal.returns-clause-asked
returns-clause-asked g c =
    are_rulings _ c.in_ok-ruled.ruled.items c.args.relays.now c.new.result (search rules) (search rules)
    c.in_ok-ruled.ensures.asked

pub returns-clause-flags : goal.returns-clause-flags
returns-clause-flags g c =
    let ruled = c.in_ok-ruled.ruled.items in
    let again = ruled_again ruled c.args.relays.now c.new.result (search rules) (search rules) in
    let flags : c.new-2.result ≡ flags_of c.args.now ruled =
    c.new-2.ensures ∙ c.in_ok-flags.ensures ∙ ap (flags_of c.args.now) c.deref.ensures.value in
    flags ∙ ap (flags_of c.args.now) (sym again)
