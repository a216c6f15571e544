use Rattle.machines.proofs.machine.summarize.Goals as goal

pub returns-clause-lawful : goal.returns-clause-lawful
returns-clause-lawful g c = g.M.Machine.lawful c.args.m.now
