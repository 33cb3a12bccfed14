mod Back
mod Found
mod Fetch
mod Immediate
mod Reading
mod UsualModes
mod Numbers
