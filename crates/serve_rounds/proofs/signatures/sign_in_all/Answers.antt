use Rattle.serve_rounds.proofs.signatures.sign_in_all.Goals as goal

pub signatures-preserved : goal.signatures-preserved
signatures-preserved g c = record {
  at = c.sign_in_one.ensures.at;
  adds = λ a adds. c.sign_in_one.ensures.adds a (c.signatures.invariant.adds a adds);
}
