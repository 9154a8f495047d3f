-- `write_record` meets its contract.
use Rattle.layout_record.proofs.Back.{back}
use Rattle.layout_record.proofs.Words.{six-writes}
use Rattle.layout_record.specs.Reading.{record_in}
use Rattle.layout_record.specs.Kept.{Kept}
use Rattle.layout_record.specs.Words.{record_words}
use mathlib.Core.Path.{◌≡◌, ap, ◌∙◌}
use Rattle.layout_record.proofs.write_record.Goals as goal

pub returns-clause-words_after : goal.returns-clause-words_after
returns-clause-words_after c = let k : Kept c.args.r = record { cells = c.buffered_block.ensures.entries_len; standing = c.standing_block-standing.ensures.narrow_standing; lead = c.lead_block.ensures.narrow_lead; best = c.best_block.ensures.narrow_best; cached = c.cached_block.ensures.narrow_cached; places = c.put_places.ensures.places_kept } in
    let e : c.put_places.new.words ≡ record_words c.args.r = six-writes c.args.r c.args.words.now _ _ _ _ _ _ _ _ _ _ _ k.cells k.places.0 c.requires c.standing_block-standing.ensures.value c.put_block.ensures c.buffered_block.ensures.value c.put_block-2.ensures c.lead_block.ensures.value c.put_block-3.ensures c.best_block.ensures.value c.put_block-4.ensures c.cached_block.ensures.value c.put_block-5.ensures c.put_places.ensures.words_after in
    e

pub returns-clause-words_after_2 : goal.returns-clause-words_after_2
returns-clause-words_after_2 c = let k : Kept c.args.r = record { cells = c.buffered_block.ensures.entries_len; standing = c.standing_block-standing.ensures.narrow_standing; lead = c.lead_block.ensures.narrow_lead; best = c.best_block.ensures.narrow_best; cached = c.cached_block.ensures.narrow_cached; places = c.put_places.ensures.places_kept } in
    let e : c.put_places.new.words ≡ record_words c.args.r = six-writes c.args.r c.args.words.now _ _ _ _ _ _ _ _ _ _ _ k.cells k.places.0 c.requires c.standing_block-standing.ensures.value c.put_block.ensures c.buffered_block.ensures.value c.put_block-2.ensures c.lead_block.ensures.value c.put_block-3.ensures c.best_block.ensures.value c.put_block-4.ensures c.cached_block.ensures.value c.put_block-5.ensures c.put_places.ensures.words_after in
    ap record_in e ∙ back c.args.r k
