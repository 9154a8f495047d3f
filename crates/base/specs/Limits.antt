-- Document 01's limits, each under one name ("What a box can hold", "The hire book").
use Rattle.std.specs.Prelude.{ℕ}
use Rattle.base.specs.declared.Limits.{Limits}

-- depots: 2 to 7, so a row of seven places
abbrev pub min_depots : ℕ
min_depots = 2

abbrev pub max_depots : ℕ
max_depots = 7

-- entries of the log, and of each of the two sync buffers
abbrev pub max_log : ℕ
max_log = 512

-- buffered proposals, and entries of one proposal or forward
abbrev pub max_buffered : ℕ
max_buffered = 16

abbrev pub max_proposal : ℕ
max_proposal = 16

-- messages of the outgoing queue, and entries that they carry together
abbrev pub max_messages : ℕ
max_messages = 64

abbrev pub max_store : ℕ
max_store = 4096

-- an entry; its day and its pump
abbrev pub max_entry : ℕ
max_entry = 33554431

abbrev pub max_day : ℕ
max_day = 65535

abbrev pub pumps : ℕ
pumps = 256

-- the largest session and the largest counter
abbrev pub largest : ℕ
largest = 18446744073709551615

-- all of them, as the code's constants are shown to be
abbrev pub limits_of : Limits
limits_of = record { min_depots = min_depots; max_depots = max_depots; max_log = max_log; max_buffered = max_buffered; max_proposal = max_proposal; max_messages = max_messages; max_store = max_store; max_entry = max_entry; max_day = max_day; pumps = pumps; largest = largest }
