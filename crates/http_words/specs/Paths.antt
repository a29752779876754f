-- The table of what is asked: by which method, at which path (dir-spec, "General-use HTTP URLs").
use Rattle.std.specs.Prelude.{ℕ, List, length, take, drop, codes, if◌then◌else◌, Bool, Option, Some, None}
use Rattle.std.specs.Str.{bytes_eq}
use Rattle.dir_bytes.specs.Fields.{hex}
use Rattle.dir_http.specs.declared.length.Method2.{Method2}
use Rattle.dir_http.specs.declared.length.Method2.TheVariants as method
use Rattle.http_words.specs.declared.asked.Form.TheVariants as form
use Rattle.http_words.specs.declared.asked.Asked.{Asked}
use Rattle.http_words.specs.declared.asked.Asked.TheVariants as asked

-- what a POST asks for
unfoldable pub by_post : List ℕ → Asked
by_post path =
    if bytes_eq path (codes "/tor/post/vote") then asked.PostVote
    else if bytes_eq path (codes "/tor/post/consensus-signature") then asked.PostSignatures
    else if bytes_eq path (codes "/tor/") then asked.PostDescriptor
    else asked.Unknown

-- what a GET of a path with no name in it asks for
unfoldable pub by_path : List ℕ → Option Asked
by_path path =
    if bytes_eq path (codes "/tor/status-vote/next/authority") then Some asked.OwnVote
    else if bytes_eq path (codes "/tor/status-vote/next/consensus") then Some (asked.Next form.Ns)
    else if bytes_eq path (codes "/tor/status-vote/next/consensus-microdesc") then Some (asked.Next form.Microdesc)
    else if bytes_eq path (codes "/tor/status-vote/next/consensus-signatures") then Some asked.NextSignatures
    else if bytes_eq path (codes "/tor/status-vote/current/consensus") then Some (asked.Current form.Ns)
    else if bytes_eq path (codes "/tor/status-vote/current/consensus-microdesc")
    then Some (asked.Current form.Microdesc)
    else if bytes_eq path (codes "/tor/keys/all") then Some asked.AllKeys
    else if bytes_eq path (codes "/tor/server/all") then Some asked.AllDescriptors
    else None

-- whether a path begins so
abbrev pub begins : List ℕ → List ℕ → Bool
begins front path = bytes_eq (take (length front) path) front

-- what is asked for by the twenty bytes that hex digits spell
abbrev pub by_twenty : (List ℕ → Asked) → Option (List ℕ) → Asked
by_twenty what None = asked.Unknown
by_twenty what (Some bytes) = what bytes

-- what a GET of a path that ends with a name asks for
unfoldable pub by_name : List ℕ → Asked
by_name path =
    if begins (codes "/tor/status-vote/next/d/") path then by_twenty asked.VoteByDigest (hex 20 (drop 24 path))
    else if begins (codes "/tor/status-vote/next/") path then by_twenty asked.VoteOf (hex 20 (drop 22 path))
    else if begins (codes "/tor/keys/fp/") path then by_twenty asked.KeysOf (hex 20 (drop 13 path))
    else if begins (codes "/tor/server/fp/") path then by_twenty asked.DescriptorOf (hex 20 (drop 15 path))
    else if begins (codes "/tor/micro/d/") path then asked.Micros 13
    else asked.Unknown

-- the one of the two that there is
abbrev pub or_else : Option Asked → Asked → Asked
or_else None other = other
or_else (Some asked) other = asked

-- what a request asks for
unfoldable pub asked_by : Method2 → List ℕ → Asked
asked_by method.Other path = asked.NotAllowed
asked_by method.Post path = by_post path
asked_by method.Get path = or_else (by_path path) (by_name path)
