use Rattle.wl_server.proofs.registry.OpenRegistry.new.Goals as goal

pub returns : goal.returns
returns c = λ i. record { object = c.args.object; told = c.new.ensures i; removed = c.new-2.ensures i }
