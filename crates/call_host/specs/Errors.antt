-- The kinds of errors.
use Rattle.model.specs.Calls.{IoErrorKind, join_multicast_failed, open_unicast_failed, send_failed}
use Rattle.call_host.specs.declared.IoErrorKind as declared
use Rattle.call_host.specs.declared.IoErrorKind.TheVariants.{JoinMulticastFailed, OpenUnicastFailed, SendFailed}

-- the kinds of errors under the definition's names
abbrev pub error_kind : declared.IoErrorKind → IoErrorKind
error_kind JoinMulticastFailed = join_multicast_failed
error_kind OpenUnicastFailed = open_unicast_failed
error_kind SendFailed = send_failed
