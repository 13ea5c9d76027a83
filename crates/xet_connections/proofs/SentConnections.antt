-- A connection to a store in memory may go to another thread.
use denote.Param.Send.{IsSend}
use denote.Ref.{NamedLft}
use Rattle.xet_connections.specs.contracts.mem_client.MemClient as mem_client
use Rattle.xet_connections.proofs.mem_client.MemClient.TheSendSync as client

pub mem_client_send : (a : NamedLft) → IsSend (mem_client.the_field a).row
mem_client_send = client.the_field_send
