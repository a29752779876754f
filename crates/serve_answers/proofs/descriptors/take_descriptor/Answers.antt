use Rattle.std.proofs.Common.{Option, inl, subst, rules}
use Rattle.count_terms.specs.declared.newest.Newest.{Newest}
use Rattle.descriptor_doc.specs.declared.descriptor.Descriptor.{Descriptor}
use Rattle.lone_vote.specs.Alone.{IsFound, NoneIs}
use Rattle.serve_answers.specs.Uploads.{IsDescriptor}
use Rattle.serve_answers.proofs.descriptors.take_descriptor.Goals as goal

pub check-requires : goal.check-requires
check-requires g c =
    let body = c.args.body.now in
    let newest = c.newest.result in
    let found = subst (λ (o : Option Descriptor). IsFound (IsDescriptor newest body) o) c.in-Some.is c.in_ok-descriptor.ensures in
    record { read = record { newest = newest; input = body; used = found.used; read = found.reads } }

pub returns-in_default-clause-takes : goal.returns-in_default-clause-takes
returns-in_default-clause-takes g c =
    let body = c.args.body.now in
    let none = subst (λ (o : Option Descriptor). IsFound (IsDescriptor c.newest.result body) o) c.in_default.is c.in_ok-descriptor.ensures in
    inl (subst (λ (n : Newest). NoneIs (IsDescriptor n body)) c.newest.ensures none, search rules)
