use Rattle.std.proofs.Common.{sym, subst, ◌∙◌}
use Rattle.mirror_core.{specs.Inputs.Stand, proofs.Standing.{one_more_document_at_most, one_there, some_left}}
use Rattle.mirror_core.proofs.Standing.{stands_more}
use Rattle.mirror_core.proofs.inputs.read_all.Goals as goal

pub documents-preserved : goal.documents-preserved
documents-preserved g c =
    let document_of = g.K.Kind.document_of in
    let bytes = c.args.bytes.now in
    record {
      stand = subst (λ all. Stand document_of bytes 0 all c.in-Ok.next) (sym c.in_ok-push_back-in-Ok.ensures.items)
          (stands_more document_of bytes 0 c.documents.all.items c.documents.place
          (c.in-Ok.document, c.in-Ok-copy_between.text) c.in-Ok.next c.documents.invariant.stand
          (one_there document_of bytes c.documents.place c.in-Some.begin c.in-Ok.next c.in-Ok.document c.in-Ok-copy_between.text
          c.in-Some.ensures.value c.in-Ok.ensures c.in-Ok-copy_between.ensures));
      within = c.in-Ok.ensures.within;
      few = one_more_document_at_most c.documents.all.items c.push_back.new.self.items _ c.documents.place c.in-Ok.next c.in_ok-push_back-in-Ok.ensures.items
          c.documents.invariant.few c.in-Ok.ensures.further;
    }

pub read_at-requires : goal.read_at-requires
read_at-requires g c = record {
  within = some_left c.args.bytes.now c.documents.place c.in-Some.begin c.in-Some.ensures.value;
  short = c.requires;
}
