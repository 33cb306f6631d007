use Rattle.std.proofs.Common.{refl}
use Rattle.wl_sigs.specs.Side.TheVariants.{Event as event_side}
use Rattle.wl_objects.specs.Messages.{reader_of}
use Rattle.wl_client.proofs.Meanings.{named_first}
use Rattle.wl_client.proofs.meaning.meaning_of_error.Goals as goal

pub returns-clause-outline : goal.returns-clause-outline
returns-clause-outline g c tables tokens parsed =
    rw (
      c.id_at-id.ensures,
      c.object.ensures,
      c.number_at.ensures,
      named_first (reader_of tables event_side c.args.objects.now) c.args.message.now.body.now
          c.args.message.now.args.now parsed,
    ) refl
