use Rattle.std.{proofs.Common.{map, ap, ◌∙◌}, specs.List.join_with_byte}
use Rattle.item_terms.specs.Bytes.{space}
use Rattle.text_page.proofs.Pages.{same_text}
use Rattle.list_values.{specs.{Masks.listed_text, Protocols.protocols_text}, proofs.ListedProtocols.texts_listed}
use Rattle.list_values.proofs.proto_ranges.ProtoRanges.put.Goals as goal

pub returns : goal.returns
returns c =
    same_text _ _ _ _
    (ap (λ items. join_with_byte space (map listed_text items)) c.deref.ensures.value
    ∙ ap (join_with_byte space) (texts_listed c.self.inside.items.items) ∙ ap protocols_text c.self.view_is)
    c.put_joined.ensures
