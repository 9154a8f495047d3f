-- A message as its kind and every field that some kind has, and the message that such fields mean.
use Rattle.std.specs.Prelude.{ℕ, cond, List, eqb, unwrap_or}
use Rattle.ballot.specs.Ballot.{default}
use Rattle.ballot.specs.declared.Ballot.{Ballot}
use Rattle.sequence.specs.Sequence.{first}
use Rattle.sequence.specs.declared.SequenceNumber.{SequenceNumber}
use Rattle.messages.specs.declared.PaxosMsg.{PaxosMsg}
use Rattle.messages.specs.declared.PaxosMsg.TheVariants.{PrepareReq, Prepare, Promise, AcceptSync, AcceptDecide, Accepted, NotAccepted, Decide, ProposalForward}
use Rattle.messages.specs.declared.Promise as promise
use Rattle.blocks.specs.Blocks.{word, ballot_of}
use Rattle.tags.specs.Tags.{option_tag}
use Rattle.tags.specs.Variants.{option_of}
use Rattle.layout_row.specs.declared.Fields.{Fields}

abbrev pub fields_as : ℕ → Ballot → Ballot → SequenceNumber → ℕ → ℕ → ℕ → ℕ → Fields
fields_as kind n accepted s decided length tag start =
    record { kind = kind; n = n; n_accepted = accepted; seq_num = s; decided_idx = decided; accepted_idx = length; with_sync = tag; sync_idx = start }

abbrev pub promise_fields : promise.Promise → Fields
promise_fields m =
    fields_as 2 m.n m.n_accepted first m.decided_idx m.accepted_idx (option_tag m.log_sync) (unwrap_or m.log_sync 0)

abbrev pub fields_of : PaxosMsg → Fields
fields_of (PrepareReq m) = fields_as 0 m.n default first 0 0 0 0
fields_of (Prepare m) = fields_as 1 m.n m.n_accepted first m.decided_idx m.accepted_idx 0 0
fields_of (Promise m) = promise_fields m
fields_of (AcceptSync m) = fields_as 3 m.n default m.seq_num m.decided_idx 0 0 m.sync_idx
fields_of (AcceptDecide m) = fields_as 4 m.n default m.seq_num m.decided_idx 0 0 0
fields_of (Accepted m) = fields_as 5 m.n default first 0 m.accepted_idx 0 0
fields_of (NotAccepted m) = fields_as 6 m.n default first 0 0 0 0
fields_of (Decide m) = fields_as 7 m.n default m.seq_num m.decided_idx 0 0 0
fields_of ProposalForward = fields_as 8 default default first 0 0 0 0

abbrev pub promise_of : Fields → promise.Promise
promise_of f =
    record { n = f.n; n_accepted = f.n_accepted; decided_idx = f.decided_idx; accepted_idx = f.accepted_idx; log_sync = option_of f.with_sync f.sync_idx }

-- by the kind; one above its most is read as the last
abbrev pub message_as : ℕ → Fields → PaxosMsg
message_as kind f =
    cond (eqb kind 0) (PrepareReq (record { n = f.n }))
    (cond (eqb kind 1) (Prepare (record { n = f.n; decided_idx = f.decided_idx; n_accepted = f.n_accepted; accepted_idx = f.accepted_idx }))
    (cond (eqb kind 2) (Promise (promise_of f))
    (cond (eqb kind 3) (AcceptSync (record { n = f.n; seq_num = f.seq_num; decided_idx = f.decided_idx; sync_idx = f.sync_idx }))
    (cond (eqb kind 4) (AcceptDecide (record { n = f.n; seq_num = f.seq_num; decided_idx = f.decided_idx }))
    (cond (eqb kind 5) (Accepted (record { n = f.n; accepted_idx = f.accepted_idx }))
    (cond (eqb kind 6) (NotAccepted (record { n = f.n }))
    (cond (eqb kind 7) (Decide (record { n = f.n; seq_num = f.seq_num; decided_idx = f.decided_idx }))
    ProposalForward)))))))

unfoldable pub message_of : Fields → PaxosMsg
message_of f = message_as f.kind f

-- the fields in words 1 to 13 of a block
abbrev pub fields_in : List ℕ → Fields
fields_in b =
    fields_as (word b 1) (ballot_of (word b 2) (word b 3) (word b 4)) (ballot_of (word b 5) (word b 6) (word b 7)) (record { session = word b 8; counter = word b 9 }) (word b 10) (word b 11) (word b 12) (word b 13)
