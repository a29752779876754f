-- What a mirror gives for what is asked for over HTTP, in the words that an authority has for it (dir-spec, "General-use
-- HTTP URLs").
use Rattle.std.specs.{Prelude.{ℕ, List, [], drop, Option, Some, None}, List.flat_map}
use Rattle.http_words.specs.{DigestLists.digest_list, declared.{asked.Asked.Asked, replies.Reply.Reply}}
use Rattle.http_words.specs.{declared.outcome.Outcome.{Outcome, TheVariants.{Replied, Found}}, Found.unless_empty}
use Rattle.http_words.specs.declared.asked.Asked.TheVariants as asked
use Rattle.http_words.specs.declared.asked.Form.TheVariants as form
use Rattle.http_words.specs.declared.replies.Reply.TheVariants as reply
use Rattle.mirror_core.specs.{Answers.{certs_text, consensus_text, micro_with}, States.Mirrored}

-- the bytes of a microdescriptor, or none
abbrev pub bytes_if : Option (List ℕ) → List ℕ
bytes_if None = []
bytes_if (Some bytes) = bytes

-- the microdescriptors that are held of those with digests, in the order of these
abbrev pub micros_with : Mirrored → List (List ℕ) → List ℕ
micros_with mirror digests = flat_map (λ digest. bytes_if (micro_with mirror digest)) digests

-- those of a list of digests, if it is one, and one of them is held
abbrev pub micros_given : Mirrored → Option (List (List ℕ)) → Option (List ℕ)
micros_given mirror None = None
micros_given mirror (Some digests) = unless_empty (micros_with mirror digests)

-- the document that is asked for by a path, where a mirror has it: the microdesc consensus, all certificates,
-- microdescriptors
abbrev pub given_document : Mirrored → Asked → List ℕ → Option (List ℕ)
given_document mirror (asked.Current form.Microdesc) path = consensus_text mirror
given_document mirror asked.AllKeys path = unless_empty (certs_text mirror)
given_document mirror (asked.Micros place) path = micros_given mirror (digest_list (drop place path))
given_document mirror other path = None

-- the answer where no document is given
abbrev pub without : Asked → Reply
without asked.NotAllowed = reply.NotAllowed
without other = reply.NotFound

-- a document, or else an answer
abbrev pub found_or : Option (List ℕ) → Reply → Outcome
found_or (Some document) answer = Found document
found_or None answer = Replied answer

-- what comes of what is asked for by a path
abbrev pub outcome_of : Mirrored → Asked → List ℕ → Outcome
outcome_of mirror what path = found_or (given_document mirror what path) (without what)
