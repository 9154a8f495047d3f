-- Reading an event, and a configuration, gives back what was written.
use mathlib.Core.Path.{◌≡◌, refl}
use mathlib.Core.Bool.{false}
use lib.Dec.{ltb}
use Rattle.quorum.specs.declared.Configuration.{Configuration}
use Rattle.quorum.specs.declared.Quorum.{Quorum}
use Rattle.quorum.specs.declared.Quorum.TheVariants.{Majority, Flexible}
use Rattle.messages.specs.declared.Event.{Event}
use Rattle.messages.specs.declared.Event.TheVariants.{Message, Propose, Leader, Reconnect, Resend, Drain, Restart}
use Rattle.layout_row.specs.Event.{event_pid, event_fields, event_kind, event_words, NarrowEvent, event_of, event_in, quorum_tag, quorum_read, quorum_write, configuration_words, quorum_of, configuration_in}
use Rattle.layout_row.proofs.Fits.{kind-low, sync-low, event-fits}
use Rattle.layout_row.proofs.Back.{message-back, fields_back}

event-low : (e : Event) → ltb 6 (event_kind e) ≡ false
event-low (Message m) = refl
event-low Propose = refl
event-low (Leader n) = refl
event-low (Reconnect pid) = refl
event-low Resend = refl
event-low Drain = refl
event-low Restart = refl

fields-low : (e : Event) → (ltb 8 (event_fields e).kind ≡ false) × (ltb 1 (event_fields e).with_sync ≡ false)
fields-low (Message m) = (kind-low m.msg, sync-low m.msg)
fields-low Propose = (refl, refl)
fields-low (Leader n) = (refl, refl)
fields-low (Reconnect pid) = (refl, refl)
fields-low Resend = (refl, refl)
fields-low Drain = (refl, refl)
fields-low Restart = (refl, refl)

kind-back : (e : Event) → event_of (event_kind e) (event_pid e) (event_fields e) ≡ e
unfolding event_of
kind-back (Message m) = rw (message-back m.msg)
kind-back Propose = refl
kind-back (Leader n) = refl
kind-back (Reconnect pid) = refl
kind-back Resend = refl
kind-back Drain = refl
kind-back Restart = refl

pub event-back : (e : Event) → NarrowEvent e → event_in (event_words e) ≡ e
unfolding event_in
event-back e h =
    rw (event-fits (event_pid e) (event_fields e) (event_kind e) (fields-low e).0 (fields-low e).1 h.0 h.1 (event-low e), fields_back (event_pid e) (event_fields e) (event_kind e) 0 h.0 h.1)
    (kind-back e)

quorum-back : (q : Quorum) → quorum_of (quorum_tag q) (quorum_read q) (quorum_write q) ≡ q
quorum-back (Majority n) = refl
quorum-back (Flexible q) = refl

pub configuration-back : (c : Configuration) → configuration_in (configuration_words c) ≡ c
unfolding configuration_in
configuration-back c = rw (quorum-back c.quorum)
