use Rattle.std.proofs.Common.{rules, ◌≡◌, ℕ, ◌+◌, ◌++◌, ◌≤◌, List, length, map, vec_len, vec_capacity, subst, ap, ◌∙◌}
use Rattle.std.specs.{Prelude.{OnOk, IsOk}, List.join_with_byte}
use Rattle.list_values.{specs.{Masks.listed_text, Protocols.protocols_text}, proofs.ListedProtocols.texts_listed}
use Rattle.list_values.proofs.proto_ranges.ProtoRanges.push.Goals as goal

pub returns-clause-ok : goal.returns-clause-ok
returns-clause-ok c =
    let items = c.self.inside.items.items in
    let text : join_with_byte 32 (map listed_text items) ≡ protocols_text c.args.self.now =
    ap (join_with_byte 32) (texts_listed items) ∙ ap protocols_text c.self.view_is in
    subst (λ (t : List ℕ). OnOk c.push_joined.result (c.push_joined.new.out.items ≡ c.args.out.now.items ++ t)) text (search rules)

pub returns-clause-room : goal.returns-clause-room
returns-clause-room c =
    let items = c.self.inside.items.items in
    let text : join_with_byte 32 (map listed_text items) ≡ protocols_text c.args.self.now =
    ap (join_with_byte 32) (texts_listed items) ∙ ap protocols_text c.self.view_is in
    subst (λ (t : List ℕ). vec_len c.args.out.now + length t ≤ vec_capacity c.args.out.now → IsOk c.push_joined.result) text (search rules)
