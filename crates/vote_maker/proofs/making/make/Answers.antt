use Rattle.std.proofs.{Common.{rules, ◌≡◌, Ok}, lemmas.Result.IfErr-weaker}
use Rattle.key_port.specs.Answers.{rules as verifier_rules}
use Rattle.vote_maker.{specs.Made.basis, proofs.MadeTexts.{asked_by, certified_by, made_by, refuses_by}}
use Rattle.vote_maker.proofs.SignedTexts.{ok_both}
use Rattle.vote_maker.proofs.making.make.Goals as goal

pub returns-clause-made : goal.returns-clause-made
returns-clause-made g c =
    let station = c.args.station.now in
    let its = basis station c.args.pool.now.descriptors c.args.valid_after c.args.now in
    let checked : c.check_own.result ≡ Ok tt = search rules in
    let certified = certified_by (verifier_rules g.V.Verifier.may_accept g.V.Verifier.may_refuse) c.args.valid_after
    station.certificate c.check_own.result tt checked c.check_own.ensures.certificate in
    ok_both c.signed_vote.result
    (λ whole signed fits. made_by g.N.Signer.may_give g.N.Signer.steps (g.R.Rules.allows c.args.hook.now.rules) its
    c.in_ok-text.text.items _ _ _ _ certified c.in_ok-text.ensures signed fits)
    c.signed_vote.ensures.signed c.signed_vote.ensures.fits

pub returns-clause-refused : goal.returns-clause-refused
returns-clause-refused g c =
    let station = c.args.station.now in
    let its = basis station c.args.pool.now.descriptors c.args.valid_after c.args.now in
    let checked : c.check_own.result ≡ Ok tt = search rules in
    let certified = certified_by (verifier_rules g.V.Verifier.may_accept g.V.Verifier.may_refuse) c.args.valid_after
    station.certificate c.check_own.result tt checked c.check_own.ensures.certificate in
    IfErr-weaker c.signed_vote.result _ _
    (λ why is. refuses_by g.N.Signer.may_give g.N.Signer.steps (g.R.Rules.allows c.args.hook.now.rules) its
    c.in_ok-text.text.items _ why _ _ certified c.in_ok-text.ensures is)
    c.signed_vote.ensures.refused

pub returns-clause-asked : goal.returns-clause-asked
returns-clause-asked g c =
    let checked : c.check_own.result ≡ Ok tt = search rules in
    asked_by g.N.Signer.may_give g.N.Signer.steps g.V.Verifier.steps c.args.station.now.certificate _ _ tt
    c.check_own.result c.args.station.now.certificate c.in_ok-text.text.items _ _ c.signed_vote.result checked
    c.check_own.ensures.asked c.signed_vote.ensures.refused
