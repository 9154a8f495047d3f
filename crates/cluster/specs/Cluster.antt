-- A depot with all that is lent to its steps, three of them side by side, and what a step or a message's arrival makes of them.
use Rattle.std.specs.Prelude.{ℕ, cond, List, eqb, ltb, take, drop, get_or, set, replicate, None}
use Rattle.base.specs.Limits.{max_log, max_messages, max_store}
use Rattle.quorum.specs.declared.Configuration.{Configuration}
use Rattle.quorum.specs.Quorum.{with_of}
use Rattle.messages.specs.declared.Event.{Event}
use Rattle.messages.specs.declared.Event.TheVariants.{Message}
use Rattle.messages.specs.declared.Head.{Head}
use Rattle.messages.specs.declared.Row.{Row}
use Rattle.messages.specs.Messages.{no_head}
use Rattle.record.specs.Record.{fresh_record}
use Rattle.hire_book.specs.Book.{book_length}
use Rattle.broken.specs.Lent.{lent}
use Rattle.step.specs.Step.{World, world, Outcome, step_of}
use Rattle.cluster.specs.declared.Site.{Site}
use Rattle.cluster.specs.declared.Stepped.{Stepped}
use Rattle.cluster.specs.declared.Cluster.{Cluster}
use Rattle.cluster.specs.declared.Moved.{Moved}

-- so many depots, the own pid, and majorities
abbrev pub majority : ℕ → ℕ → Configuration
majority depots pid = record { depots = depots; pid = pid; quorum = with_of None depots }

-- what a depot holds, as the rules of a step have it
abbrev pub world_of : Site → World
world_of s = world s.node s.row (lent s.log s.cached s.best s.store s.book)

-- the depot of a configuration that holds a world
abbrev pub site_of : Configuration → World → Site
site_of c w =
    record {
      config = c;
      node = w.node;
      row = w.row;
      log = w.lists.log;
      cached = w.lists.cached;
      best = w.lists.best;
      store = w.lists.store;
      book = w.lists.book;
    }

-- a depot that never ran
abbrev pub fresh_site : Configuration → Site
fresh_site c =
    record {
      config = c;
      node = fresh_record;
      row = record { heads = replicate max_messages no_head };
      log = replicate max_log 0;
      cached = replicate max_log 0;
      best = replicate max_log 0;
      store = replicate max_store 0;
      book = replicate book_length 0;
    }

abbrev pub stepped_of : Configuration → Outcome → Stepped
stepped_of c o = record { answer = o.answer; site = site_of c o.after }

-- one step of a depot
unfoldable pub step_site : Event → List ℕ → Site → Stepped
step_site e entries s = stepped_of s.config (step_of s.config e entries (world_of s))

-- the head at a place of a row; past its end, none
abbrev pub head_in : ℕ → Row → Head
head_in at row = cond (ltb at max_messages) (get_or row.heads at no_head) no_head

-- the message of a head of another depot arrives, with its entries as they lie in that depot's store
unfoldable pub receive_site : Site → Head → Site → Stepped
receive_site from head s =
    step_site (Message (record { from = from.config.pid; msg = head.msg })) (take head.count (drop head.start from.store)) s

-- where a depot stands: pid 1 to 3 at 0 to 2; any other pid is read as 1
abbrev pub place_of : ℕ → ℕ
place_of pid = cond (eqb pid 2) 1 (cond (eqb pid 3) 2 0)

abbrev pub site_at : ℕ → Cluster → Site
site_at pid c = get_or c.sites (place_of pid) (fresh_site (majority 3 1))

abbrev pub with_site : ℕ → Site → Cluster → Cluster
with_site pid s c = record { sites = set c.sites (place_of pid) s }

abbrev pub moved_to : ℕ → Stepped → Cluster → Moved
moved_to pid x c = record { answer = x.answer; cluster = with_site pid x.site c }

-- one step of one depot; the others stay
unfoldable pub step_at : ℕ → Event → List ℕ → Cluster → Moved
step_at pid e entries c = moved_to pid (step_site e entries (site_at pid c)) c

-- a message arrives at its receiver
unfoldable pub carried : Site → Head → Cluster → Moved
carried from head c = moved_to head.to (receive_site from head (site_at head.to c)) c

-- the message at a place of a depot's row arrives
unfoldable pub deliver_at : ℕ → ℕ → Cluster → Moved
deliver_at from at c = carried (site_at from c) (head_in at (site_at from c).row) c
