-- Refusal 10: "Something stored that this step's rule reads has a field out of range, or points to something that isn't there". From a newly
-- opened store no step is refused so.

-- NO REFUSAL BY 10, the statement
pub mod Claim
-- what a sound store is; of it the laws and the edits speak
pub mod Laws
