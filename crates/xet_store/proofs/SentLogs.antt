-- The log of a connection may go to another thread.
use denote.Param.Send.{IsSend}
use Rattle.xet_store.specs.contracts.client_log.ClientLog as client_log
use Rattle.xet_store.proofs.client_log.ClientLog.TheSendSync as log

pub client_log_send : IsSend client_log.the_row
client_log_send = log.the_send
