use Rattle.std.{proofs.Common.{◌≡◌, ℕ, List, ap, ap₂, sym, ◌∙◌}, specs.List.fold}
use Rattle.item_terms.specs.Words.{words_of}
use Rattle.dir_values.{specs.Arguments.{Argument, texts_of}, proofs.ArgumentWords.arguments_words}
use Rattle.list_values.specs.{declared.named.Named.Named, Maps.with_value, Masks.{all_listed, numbers_of}}
use Rattle.list_values.specs.{NumberSets.united_numbers, Protocols.{with_protocol, numbers_at, numbers_in}}
use Rattle.list_values.proofs.{ListedProtocols.listed-with_value, NumberLists.united_masks}
use Rattle.list_values.proofs.protocol_list.protocols_in.Goals as goal

pub arguments-init : goal.arguments-init
arguments-init c =
    ap (λ (l : List Argument). fold with_protocol (all_listed c.new-map.result) (texts_of l)) c.at-arguments.ensures
    ∙ ap (λ (l : List (List ℕ)). fold with_protocol (all_listed c.new-map.result) l) (arguments_words 0 c.args.text.now)
    ∙ ap (λ (m : List (Named ℕ)). fold with_protocol (all_listed m) (words_of c.args.text.now)) c.new-map.ensures

pub arguments-preserved : goal.arguments-preserved
arguments-preserved c =
    let word = c.in-Some.argument.text.now in
    let map = c.arguments.map in
    let before = all_listed map in
    let name = c.left_side-name.result.now in
    let numbers : numbers_of _ ≡ united_numbers (numbers_at before name) (numbers_in word) =
    united_masks c.mask_at.result c.mask_or_none.result ∙ ap₂ united_numbers c.mask_at.ensures c.mask_or_none.ensures in
    let with_it : all_listed c.put.new.self ≡ with_protocol before word =
    ap all_listed c.in_ok-put.ensures ∙ listed-with_value map name _
    ∙ ap (with_value before name) numbers
    ∙ ap (λ (n : List ℕ). with_value before n (united_numbers (numbers_at before n) (numbers_in word))) c.left_side-name.ensures in
    ap (λ (m : List (Named (List ℕ))). fold with_protocol m (texts_of c.next.new.self)) with_it
    ∙ sym (ap (λ (l : List Argument). fold with_protocol before (texts_of l)) c.in-Some.ensures.taken)
    ∙ c.arguments.invariant
