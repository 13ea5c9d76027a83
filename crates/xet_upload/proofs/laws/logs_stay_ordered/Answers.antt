use Rattle.xet_upload.proofs.Orders.{backed-known, backed-more, ordered-known, ordered-prefix, ordered-shard, ordered-xorb, put-there, there-more}
use Rattle.xet_upload.proofs.laws.logs_stay_ordered.Goals as goal

pub returns : goal.returns
returns c = record { prefix = ordered-prefix; xorb = ordered-xorb; shard = ordered-shard; known = ordered-known; there = there-more; put = put-there; backed = backed-more; backed_known = backed-known }
