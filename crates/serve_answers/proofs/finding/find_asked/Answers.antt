use Rattle.std.proofs.Common.{◌≡◌, subst, sym}
use Rattle.key_port.specs.Answers.{Rules, rules}
use Rattle.consensus_terms.specs.declared.flavour.Flavour.{Flavour}
use Rattle.http_words.specs.declared.asked.Asked.{Asked}
use Rattle.serve_answers.{specs.Finding.{FindsAsked, ReadsCurrent}, proofs.Standing.copied}
use Rattle.serve_answers.proofs.finding.find_asked.Goals as goal

pub returns-in-Current-clause-finds : goal.returns-in-Current-clause-finds
returns-in-Current-clause-finds g c =
    let rules : Rules = rules g.V.Verifier.may_accept g.V.Verifier.may_refuse in
    subst
    (λ (what : Asked). FindsAsked rules c.args.board.now c.args.pass.now c.copy-in-Current.new.pass what
    c.args.path.now c.copy-in-Current.result) (sym c.in-Current.is)
    (subst
    (λ (flavour : Flavour). ReadsCurrent rules c.args.board.now c.args.pass.now c.copy-in-Current.new.pass flavour
    c.copy-in-Current.result) c.flavour_of-in-Current.ensures
    (copied rules c.args.board.now c.args.pass.now c.copy-in-Current.new.pass c.flavour_of-in-Current.result
    c.copy-in-Current.result c.copy-in-Current.ensures.reading))
