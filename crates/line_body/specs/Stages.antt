-- What a stage of a line stands at, beside the fields of `fields`.
use Rattle.std.specs.Prelude.{refl}
use Rattle.exact.specs.Parser.{◌then◌}
use Rattle.fields.specs.LineFields.{Headers, from_source, space_field}
use Rattle.line_address.specs.declared.Inet.{Inet}
use Rattle.line_address.specs.Families.{tcp_kind, field}

abbrev pub from_space : Inet → Headers
from_space inet = (space_field (from_source (tcp_kind inet) (field inet)).least then λ u. from_source (tcp_kind inet) (field inet)) (λ u f l. refl)
