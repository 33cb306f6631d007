-- The server reads a request, writes an event or drops an object.
use Rattle.std.proofs.Common.{◌≡◌, ◌≢◌, false, List, [], ◌∷◌, ◌++◌, sym, subst}
use Rattle.std.specs.declared.option.Option.{Option}
use Rattle.std.specs.declared.option.Option.TheVariants.{None, Some}
use Rattle.wl_sigs.specs.Fixed.{registry}
use Rattle.wl_sigs.specs.Side.TheVariants.{Request, Event as event_side}
use Rattle.wl_sigs.specs.Tables.{Interface}
use Rattle.wl_sigs.specs.Valid.{Valid}
use Rattle.wl_check.specs.Session.{Judged}
use Rattle.theory_connection.specs.Meant.{Born, Known, Message, Coming, Event, Delete, objects, made_in}
use Rattle.theory_connection.specs.World.{Each, IfThere, answer, delete}
use Rattle.theory_connection.specs.Flight.{Rows, MeetInMiddle, ReadsInFlight, Tell, all_asks}
use Rattle.theory_connection.specs.Stands.{by_event}
use Rattle.theory_connection.proofs.EndedObject.{Mortal, both_if, ends_have, if_by}
use Rattle.theory_connection.proofs.Flight.{reads_more}
use Rattle.theory_connection.proofs.RequestRead.{answer_is, plain_after, plain_event}
use Rattle.theory_connection.proofs.WholeInFlight.{OfClient, ThereRow, all_tells_more, asks_at, drop_meets, each_more}
use Rattle.theory_connection.proofs.WholeInFlight.{id_maker, server_ends, server_makes, server_told, tell_meets}
use Rattle.theory_peers.specs.FollowsServer.{CanBeRead, FollowsServer, MayBeDropped, MayBeTold, WrittenFitly, after_event}
use Rattle.theory_peers.proofs.MessageRules.{event_ends, event_makes, there_client, there_mortal}
use Rattle.theory_peers.proofs.ServerRowsStay.{ends_display, ends_low, makes_display, makes_low, tells_display, tells_low}

-- ---- reading

pub reads_one : (tables : List Interface) (e : List Judged) (m : Message Known) (asked : List (Message Known))
    (told : List (Coming Known)) (server : Rows Born) → FollowsServer tables e (m ∷ asked) told server
    → CanBeRead tables e m asked told server
reads_one tables e m asked told server f =
    let a = asks_at m.target (objects m.args) (made_in m.args) m.ends f.meet.tied in
    let ends = ends_have (ThereRow server) tables Request m f.asks_fit.0 a.target a.args in
    let made = server_makes server (made_in m.args) in
    record {
      target = a.target;
      args = a.args;
      new = a.new;
      follows = record {
        passed = f.passed;
        here = f.here;
        known_as = f.known_as;
        meet = record {
          middle = a.past.middle;
          reads = subst (λ (es : List Tell). ReadsInFlight (by_event tables) es f.here a.past.middle)
              (sym (all_tells_more told (answer id_maker m.ends))) (reads_more f.meet.reads a.past.reads);
          tied = a.past.tied;
        };
        display = f.display;
        asks_fit = f.asks_fit.1;
        fit = each_more (WrittenFitly tables) told (answer id_maker m.ends) f.fit
            (answer_is (Each (WrittenFitly tables)) m.ends tt (λ x is client. (
              f.low x.id x.born client (subst (IfThere (ThereRow server)) is ends),
              tt,
            )));
        server_display = ends_display made m.ends a.mortal (makes_display server (made_in m.args) a.new f.server_display);
        low = ends_low made m.ends (makes_low server (made_in m.args) a.new f.low);
        plain = plain_after (by_event tables) server (made_in m.args) m.ends a.new f.plain;
      };
    }

-- ---- writing

pub writes_one : (tables : List Interface) (e : List Judged) (asked : List (Message Known))
    (told : List (Coming Known)) (server : Rows Born) (m : Message Known) → Valid tables
    → FollowsServer tables e asked told server → MayBeTold tables server m
    → FollowsServer tables e asked (told ++ (Event m ∷ delete m.ends)) (after_event server m)
writes_one tables e asked told server m v f c =
    let fits = c.event.fits in
    let new = made_in m.args in
    let news = Event m ∷ delete m.ends in
    let now = server_told server new in
    let rule = event_makes tables m fits v in
    let lasts : IfThere (λ x. by_event tables x.born ≡ false) new = if_by (λ x r. r.lasting) new rule in
    let other : IfThere (λ x. x.born.iface ≢ registry) new = if_by (λ x r. r.other) new rule in
    let there : IfThere (ThereRow server) m.ends =
    ends_have (ThereRow server) tables event_side m fits c.target c.args in
    let by = event_ends tables m fits v in
    let mortal : IfThere Mortal m.ends =
    both_if (λ x h t. there_mortal tables server x v f.server_display h t) m.ends there by in
    let client : IfThere OfClient m.ends = both_if (λ x h t. there_client tables server x f.plain h t) m.ends there by in
    record {
      passed = f.passed;
      here = f.here;
      known_as = f.known_as;
      meet = subst (λ (es : List Tell). MeetInMiddle (by_event tables) es (all_asks asked) f.here (after_event server m))
          (sym (all_tells_more told news))
          (tell_meets m.target (objects m.args) new m.ends f.meet c.target c.args c.new lasts by mortal client there);
      display = f.display;
      asks_fit = f.asks_fit;
      fit = each_more (WrittenFitly tables) told news f.fit (c.event, deletes_low m.ends there client);
      server_display = ends_display now m.ends mortal (tells_display server new c.new f.server_display);
      low = ends_low now m.ends (tells_low server new c.new f.low);
      plain = plain_event (by_event tables) server new m.ends lasts other f.plain;
    }
  where
    deletes_low : (o : Option Known) → IfThere (ThereRow server) o → IfThere OfClient o
        → Each (WrittenFitly tables) (delete o)
    deletes_low None h l = tt
    deletes_low (Some x) h l = (f.low x.id x.born l h, tt)

pub drops_one : (tables : List Interface) (e : List Judged) (asked : List (Message Known))
    (told : List (Coming Known)) (server : Rows Born) (x : Known) → Valid tables
    → FollowsServer tables e asked told server → MayBeDropped tables server x
    → FollowsServer tables e asked (told ++ Delete x ∷ []) (server_ends (Some x) server)
drops_one tables e asked told server x v f c =
    let mortal = there_mortal tables server x v f.server_display c.there c.by_event_alone in
    let client = there_client tables server x f.plain c.there c.by_event_alone in
    let after = server_ends (Some x) server in
    record {
      passed = f.passed;
      here = f.here;
      known_as = f.known_as;
      meet = subst (λ (es : List Tell). MeetInMiddle (by_event tables) es (all_asks asked) f.here after)
          (sym (all_tells_more told (Delete x ∷ [])))
          (drop_meets x f.meet mortal client c.there c.by_event_alone);
      display = f.display;
      asks_fit = f.asks_fit;
      fit = each_more (WrittenFitly tables) told (Delete x ∷ []) f.fit (f.low x.id x.born client c.there, tt);
      server_display = ends_display server (Some x) mortal f.server_display;
      low = ends_low server (Some x) f.low;
      plain = plain_after (by_event tables) server None (Some x) tt f.plain;
    }
