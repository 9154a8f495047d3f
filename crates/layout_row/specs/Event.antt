-- Events and configurations as words, and those that words mean.
use Rattle.std.specs.Prelude.{ℕ, cond, List, [], ◌∷◌, eqb}
use Rattle.ballot.specs.Ballot.{default}
use Rattle.sequence.specs.Sequence.{first}
use Rattle.quorum.specs.declared.Configuration.{Configuration}
use Rattle.quorum.specs.declared.Quorum.{Quorum}
use Rattle.quorum.specs.declared.Quorum.TheVariants.{Majority, Flexible}
use Rattle.messages.specs.declared.Event.{Event}
use Rattle.messages.specs.declared.Event.TheVariants.{Message, Propose, Leader, Reconnect, Resend, Drain, Restart}
use Rattle.messages.specs.declared.PaxosMsg.TheVariants.{NotAccepted}
use Rattle.blocks.specs.Blocks.{word, above_most, most32, Narrow}
use Rattle.layout_row.specs.declared.Fields.{Fields}
use Rattle.layout_row.specs.Fields.{fields_as, fields_of, message_of, fields_in}
use Rattle.layout_row.specs.Row.{block_of}

-- an event: the depot in word 0, the fields of a message in words 1 to 13, the kind in word 14
abbrev pub event_pid : Event → ℕ
event_pid (Message m) = m.from
event_pid Propose = 0
event_pid (Leader n) = 0
event_pid (Reconnect pid) = pid
event_pid Resend = 0
event_pid Drain = 0
event_pid Restart = 0

abbrev pub event_fields : Event → Fields
event_fields (Message m) = fields_of m.msg
event_fields Propose = fields_as 0 default default first 0 0 0 0
event_fields (Leader n) = fields_as 0 n default first 0 0 0 0
event_fields (Reconnect pid) = fields_as 0 default default first 0 0 0 0
event_fields Resend = fields_as 0 default default first 0 0 0 0
event_fields Drain = fields_as 0 default default first 0 0 0 0
event_fields Restart = fields_as 0 default default first 0 0 0 0

abbrev pub event_kind : Event → ℕ
event_kind (Message m) = 0
event_kind Propose = 1
event_kind (Leader n) = 2
event_kind (Reconnect pid) = 3
event_kind Resend = 4
event_kind Drain = 5
event_kind Restart = 6

abbrev pub event_words : Event → List ℕ
event_words e = block_of (event_pid e) (event_fields e) (event_kind e) 0

-- as every event of a machine is
abbrev pub NarrowEvent : Event → Type 0
NarrowEvent e = Narrow (event_fields e).n × Narrow (event_fields e).n_accepted

-- the most of each word; 0 where it has none
abbrev pub event_most : List ℕ
event_most = 0 ∷ 8 ∷ most32 ∷ most32 ∷ 0 ∷ most32 ∷ most32 ∷ 0 ∷ 0 ∷ 0 ∷ 0 ∷ 0 ∷ 1 ∷ 0 ∷ 6 ∷ 0 ∷ []

-- a message of that depot that is unfit in every state: its ballot is the default
abbrev pub unfit_from : ℕ → Event
unfit_from from = Message (record { from = from; msg = NotAccepted (record { n = default }) })

-- by its kind
unfoldable pub event_of : ℕ → ℕ → Fields → Event
event_of kind pid f =
    cond (eqb kind 0) (Message (record { from = pid; msg = message_of f }))
    (cond (eqb kind 1) Propose
    (cond (eqb kind 2) (Leader f.n)
    (cond (eqb kind 3) (Reconnect pid)
    (cond (eqb kind 4) Resend
    (cond (eqb kind 5) Drain
    Restart)))))

-- a block that means no event is an unfit message from the depot in word 0
unfoldable pub event_in : List ℕ → Event
event_in b = cond (above_most event_most b) (unfit_from (word b 0)) (event_of (word b 14) (word b 0) (fields_in b))

-- a configuration
abbrev pub quorum_tag : Quorum → ℕ
quorum_tag (Majority n) = 0
quorum_tag (Flexible q) = 1

abbrev pub quorum_read : Quorum → ℕ
quorum_read (Majority n) = n
quorum_read (Flexible q) = q.read_quorum_size

abbrev pub quorum_write : Quorum → ℕ
quorum_write (Majority n) = 0
quorum_write (Flexible q) = q.write_quorum_size

abbrev pub configuration_words : Configuration → List ℕ
configuration_words c =
    c.depots ∷ c.pid ∷ quorum_tag c.quorum ∷ quorum_read c.quorum ∷ quorum_write c.quorum
    ∷ 0 ∷ 0 ∷ 0 ∷ 0 ∷ 0 ∷ 0 ∷ 0 ∷ 0 ∷ 0 ∷ 0 ∷ 0 ∷ []

-- a tag that means no quorum is read as a majority of size 0, which stands in no configuration
abbrev pub quorum_of : ℕ → ℕ → ℕ → Quorum
quorum_of tag read write =
    cond (eqb tag 0) (Majority read)
    (cond (eqb tag 1) (Flexible (record { read_quorum_size = read; write_quorum_size = write })) (Majority 0))

unfoldable pub configuration_in : List ℕ → Configuration
configuration_in b = record { depots = word b 0; pid = word b 1; quorum = quorum_of (word b 2) (word b 3) (word b 4) }
