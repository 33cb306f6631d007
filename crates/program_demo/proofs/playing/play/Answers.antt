use Rattle.std.proofs.Common.{◌++◌}
use Rattle.wl_session.specs.Meaning.{moves_of}
use Rattle.program_demo.specs.Moves.{adding_globals, getting_registry, announcing_globals}
use Rattle.program_demo.specs.Moves.{binding_globals, finishing_callback, drawing_surface}
use Rattle.program_demo.specs.Session.{each_once, to_server, to_client}
use Rattle.program_demo.proofs.Runs.{plays_on, plays_then, plays_these}
use Rattle.program_demo.proofs.playing.play.Goals as goal

-- the parts together are the session
pub returns : goal.returns
returns g c =
    let start = c.args.pair.now in
    let played-1 = plays_these moves_of c.deref.result.now c.in_ok-adding_globals.field-0.items
    (adding_globals c.args.tables.now) start c.play_all.new.pair c.deref.ensures.value
    c.in_ok-adding_globals.ensures c.in_ok-play_all.ensures in
    let parts-1 = each_once (adding_globals c.args.tables.now) in
    let played-2 = plays_on parts-1 (each_once (getting_registry)) start c.play_all.new.pair c.play_all-2.new.pair
    played-1 (plays_these moves_of c.deref-2.result.now c.in_ok-getting_registry.field-0.items
    (getting_registry) c.play_all.new.pair c.play_all-2.new.pair c.deref-2.ensures.value
    c.in_ok-getting_registry.ensures c.in_ok-play_all-2.ensures) in
    let parts-2 = parts-1 ++ each_once (getting_registry) in
    let played-3 = plays_on parts-2 (to_server c.args.piece) start c.play_all-2.new.pair c.read_at_server.new.pair
    played-2 (c.in_ok-read_at_server.ensures) in
    let parts-3 = parts-2 ++ to_server c.args.piece in
    let played-4 = plays_on parts-3 (each_once (announcing_globals)) start c.read_at_server.new.pair
    c.play_all-3.new.pair played-3 (plays_these moves_of c.deref-3.result.now
    c.in_ok-announcing_globals.field-0.items
    (announcing_globals) c.read_at_server.new.pair c.play_all-3.new.pair c.deref-3.ensures.value
    c.in_ok-announcing_globals.ensures c.in_ok-play_all-3.ensures) in
    let parts-4 = parts-3 ++ each_once (announcing_globals) in
    let played-5 = plays_on parts-4 (to_client c.args.piece) start c.play_all-3.new.pair c.read_at_client.new.pair
    played-4 (c.in_ok-read_at_client.ensures) in
    let parts-5 = parts-4 ++ to_client c.args.piece in
    let played-6 = plays_on parts-5 (each_once (binding_globals)) start c.read_at_client.new.pair c.play_all-4.new.pair
    played-5 (plays_these moves_of c.deref-4.result.now c.in_ok-binding_globals.field-0.items
    (binding_globals) c.read_at_client.new.pair c.play_all-4.new.pair c.deref-4.ensures.value
    c.in_ok-binding_globals.ensures c.in_ok-play_all-4.ensures) in
    let parts-6 = parts-5 ++ each_once (binding_globals) in
    let played-7 = plays_on parts-6 (to_server c.args.piece) start c.play_all-4.new.pair c.read_at_server-2.new.pair
    played-6 (c.in_ok-read_at_server-2.ensures) in
    let parts-7 = parts-6 ++ to_server c.args.piece in
    let played-8 = plays_on parts-7 (each_once (finishing_callback)) start c.read_at_server-2.new.pair
    c.play_all-5.new.pair played-7 (plays_these moves_of c.deref-5.result.now
    c.in_ok-finishing_callback.field-0.items
    (finishing_callback) c.read_at_server-2.new.pair c.play_all-5.new.pair c.deref-5.ensures.value
    c.in_ok-finishing_callback.ensures c.in_ok-play_all-5.ensures) in
    let parts-8 = parts-7 ++ each_once (finishing_callback) in
    let played-9 = plays_on parts-8 (to_client c.args.piece) start c.play_all-5.new.pair c.read_at_client-2.new.pair
    played-8 (c.in_ok-read_at_client-2.ensures) in
    let parts-9 = parts-8 ++ to_client c.args.piece in
    let played-10 = plays_on parts-9 (each_once (drawing_surface)) start c.read_at_client-2.new.pair
    c.play_all-6.new.pair played-9 (plays_these moves_of c.deref-6.result.now
    c.in_ok-drawing_surface.field-0.items
    (drawing_surface) c.read_at_client-2.new.pair c.play_all-6.new.pair c.deref-6.ensures.value
    c.in_ok-drawing_surface.ensures c.in_ok-play_all-6.ensures) in
    let parts-10 = parts-9 ++ each_once (drawing_surface) in
    let played-11 = plays_on parts-10 (to_server c.args.piece) start c.play_all-6.new.pair c.read_at_server-3.new.pair
    played-10 (c.in_ok-read_at_server-3.ensures) in
    let parts-11 = parts-10 ++ to_server c.args.piece in
    plays_then c.read_at_client-3.result parts-11
    (to_client c.args.piece) start c.read_at_server-3.new.pair c.read_at_client-3.new.pair played-11
    c.read_at_client-3.ensures
