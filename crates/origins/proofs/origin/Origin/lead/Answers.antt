use Rattle.origins.proofs.origin.Origin.lead.Goals as goal

pub returns-in-Same : goal.returns-in-Same
returns-in-Same c as₁ h = rw c.in-Same.is (c.with_arc.ensures as₁ h)

pub returns-in-Part : goal.returns-in-Part
returns-in-Part c as₁ h = rw c.in-Part.is (c.with_arc-in-Part.ensures as₁ h)
