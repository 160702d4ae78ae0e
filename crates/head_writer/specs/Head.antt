-- The sixteen bytes before a block.
use Rattle.std.specs.Prelude.{List, ◌∷◌, ◌++◌, ℕ}
use Rattle.exact.specs.Network.{network}
use Rattle.record.specs.declared.Kind.{Kind}
use Rattle.record.specs.declared.Kind.TheVariants.{Local, Unspecified, Ip4, Ip6, Unix}
use Rattle.record.specs.Kinds.{byte_of}
use Rattle.header.specs.Block.{signature, LOCAL, PROXY}

-- byte 12: "local as 20", the others as 21
abbrev pub command_of : Kind → ℕ
command_of Local = LOCAL
command_of Unspecified = PROXY
command_of (Ip4 t) = PROXY
command_of (Ip6 t) = PROXY
command_of (Unix t) = PROXY

-- "Bytes 14 and 15: length L, high byte first": the sixteen bytes before a block of n bytes
abbrev pub head_of : Kind → ℕ → List ℕ
head_of k n = signature ++ command_of k ∷ byte_of k ∷ network n
