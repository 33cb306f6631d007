use Rattle.wl_connection.proofs.MoreTables.{text_extends}
use Rattle.wl_connection.proofs.laws.texts_extend.Goals as goal

pub returns : goal.returns
returns c = text_extends c.places_and_opcodes_stay.ensures
